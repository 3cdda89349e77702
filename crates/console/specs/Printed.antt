-- DOCUMENT 01'S PRINTED INPUT AND OUTPUT, byte for byte, and runs that end early: computed from the definition, the register's words and all.
use Rattle.std.specs.Prelude.{◌≡◌, refl, [], codes}
use Rattle.base.specs.Bits.{bit_at, with_bit, without_bit}
use Rattle.base.specs.Ones.{bits_from}
use Rattle.base.specs.Slots.{slots_of}
use Rattle.layout.specs.Sizes.{block_len, layout_len}
use Rattle.layout.specs.Program.{each}
use Rattle.layout.specs.Settings.{in_limits}
use Rattle.layout.specs.Head.{head_of, head_words, with_head, cleared, bad_head, placed}
use Rattle.layout.specs.Cursor.{store_cursor}
use Rattle.layout.specs.Standing.{stands, raised, lowered}
use Rattle.layout.specs.Parts.{block_part, level_part, page_part, block_word, slot_word}
use Rattle.layout.specs.Words.{read_word, write_word, wipe_block}
use Rattle.layout.specs.OnWords.{over}
use Rattle.calls.specs.Placing.{enter_time, open_block, unlink, end_record, standing, put_record, move_record, close_full, judge_full, roll, make_room, place, replace, close, judge, clear_tag, finish, set_program, clear_program, update_program, advance_program}
use Rattle.calls.specs.Walk.{last_up_to, entries, top_level, look_up, descend, search, row_of, rows_of, neighbour, visit, path, look}
use Rattle.calls.specs.Refusals.{bad_place, bad_block, unsound_set, unsound_clear, blocks_out}
use Rattle.calls.specs.LookBack.{reader, look_at, look_back}
use Rattle.calls.specs.Step.{start, set, clear, update, advance}
use Rattle.console_text.specs.Decimal.{digits_before, decimal, read_on}
use Rattle.console_text.specs.Input.{numbers_in}
use Rattle.console_text.specs.Lines.{text_of, ended, lines_of}
use Rattle.console_run.specs.Console.{called, row_lines, said_lines, joined, console_from, blank, console_output}

pub record PrintedRuns : Type 0 where
  -- "Input: .. Output: .."
  pub whole : console_output (codes "block,useful,blocks,tags\n4,2,8,16\ntime,tag,sign,value\n1,1,+,25\n2,2,+,-25\n3,3,+,5\n4,4,+,140\n5,5,+,0\n6,2,-,0\n7,3,-,0\n8,1,-,0\n7,0,?,0\n3,0,?,0\n9,0,?,0\n")
      ≡ codes "time,kind,first,second\n7,row,5,0.0\n7,row,1,0.3\n7,row,4,1.4\n7,sum,3,2\n3,row,1,0.3\n3,row,2,-0.3\n3,row,3,0.1\n3,sum,3,1\n9,no,7,0\n"
  -- A missing first, second and third line.
  pub empty : console_output [] ≡ codes "time,kind,first,second\n0,bad,1,0\n"
  pub no_settings : console_output (codes "block,useful,blocks,tags\n") ≡ codes "time,kind,first,second\n0,bad,2,0\n"
  pub no_names : console_output (codes "block,useful,blocks,tags\n4,2,8,16") ≡ codes "time,kind,first,second\n0,bad,3,0\n"
  -- P8's refusal ends the run.
  pub refused : console_output (codes "block,useful,blocks,tags\n3,2,8,16\ntime,tag,sign,value\n0,0,?,0\n")
      ≡ codes "time,kind,first,second\n0,no,1,0\n"
  -- A bad line after the third does not.
  pub goes_on : console_output (codes "block,useful,blocks,tags\n4,2,8,16\ntime,tag,sign,value\n1,1,+,-0\n0,0,?,0")
      ≡ codes "time,kind,first,second\n0,bad,4,0\n0,sum,0,0\n"

pub printed_runs : PrintedRuns
unfolding bit_at with_bit without_bit bits_from slots_of block_len layout_len each in_limits head_of head_words with_head cleared bad_head placed store_cursor stands raised lowered block_part level_part page_part block_word slot_word read_word write_word wipe_block over enter_time open_block unlink end_record standing put_record move_record close_full judge_full roll make_room place replace close judge clear_tag finish set_program clear_program update_program advance_program last_up_to entries top_level look_up descend search row_of rows_of neighbour visit path look bad_place bad_block unsound_set unsound_clear blocks_out start set clear update advance reader look_at look_back digits_before decimal read_on numbers_in text_of ended lines_of called row_lines said_lines joined console_from blank console_output
printed_runs = record { whole = refl; empty = refl; no_settings = refl; no_names = refl; refused = refl; goes_on = refl }
