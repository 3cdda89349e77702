-- What a row of a table computes with, in four groups, each opened by one name: to unfold a definition is to unfold whatever its own line names.
use Rattle.base.specs.Lists.{joined}
use Rattle.base.specs.Bits.{bit_at, with_bit, without_bit}
use Rattle.base.specs.Ones.{bits_from}
use Rattle.base.specs.Slots.{slots_of}
use Rattle.layout.specs.Sizes.{block_len, layout_len}
use Rattle.layout.specs.Program.{each}
use Rattle.layout.specs.Settings.{in_limits}
use Rattle.layout.specs.Head.{head_of, head_words, with_head, cleared, bad_head, placed}
use Rattle.layout.specs.Cursor.{store_cursor}
use Rattle.layout.specs.Standing.{stands, raised, lowered}
use Rattle.layout.specs.Parts.{block_part, level_part, page_part, block_word, slot_word}
use Rattle.layout.specs.Words.{read_word, write_word, wipe_block}
use Rattle.layout.specs.OnWords.{over}
use Rattle.calls.specs.Placing.{enter_time, open_block, unlink, end_record, standing, put_record, move_record, close_full, judge_full, roll, make_room, place, replace, close, judge, clear_tag, finish, set_program, clear_program, update_program, advance_program}
use Rattle.calls.specs.Walk.{last_up_to, entries, top_level, look_up, descend, search, row_of, rows_of, neighbour, visit, path, look}
use Rattle.calls.specs.LookBack.{reader, look_at, look_back}
use Rattle.calls.specs.Range.{is_read, block_records, read_records, stood_in, crossing}
use Rattle.calls.specs.Window.{window_rows, unknown_tag, window}
use Rattle.calls.specs.Book.{writes}
use Rattle.calls.specs.Refusals.{bad_place, bad_block, unsound_set, unsound_clear, blocks_out}
use Rattle.calls.specs.Step.{start, set, clear, update, advance}

-- the tests of a change
unfoldable pub open_tests : Type 0
unfolding bit_at with_bit without_bit bits_from slots_of block_len layout_len in_limits head_of head_words bad_head placed stands raised lowered read_word write_word over bad_place bad_block unsound_set unsound_clear blocks_out set clear update advance
open_tests = Unit {0}

-- a start, the programs of the changes, and the book
unfoldable pub open_programs : Type 0
unfolding each with_head cleared store_cursor wipe_block enter_time open_block unlink end_record standing put_record move_record close_full judge_full roll make_room place replace close judge clear_tag finish set_program clear_program update_program advance_program start writes
open_programs = Unit {0}

-- a look-back
unfoldable pub open_walk : Type 0
unfolding block_len layout_len in_limits head_of head_words bad_head block_part level_part page_part block_word slot_word write_word last_up_to entries top_level look_up descend search row_of rows_of neighbour visit path look reader look_at look_back
open_walk = Unit {0}

-- a window
unfoldable pub open_window : Type 0
unfolding joined block_len layout_len in_limits head_of head_words bad_head block_part block_word slot_word write_word reader is_read block_records read_records stood_in crossing window_rows unknown_tag window
open_window = Unit {0}
