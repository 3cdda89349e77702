-- The edges of a window and its table hold: each is computed on the words.
use Rattle.std.specs.Prelude.{refl}
use Rattle.calls.specs.Opened.{open_tests, open_programs, open_window}
use Rattle.calls.specs.Table.{fresh as printed_fresh}
use Rattle.calls.proofs.TableProof.{eight, on_eight}
use Rattle.edges.specs.EdgesStores.{fresh, three}
use Rattle.edges.specs.EdgesWindow.{crosses, RangeEdges, ReadEdges, StoodEdges, UnknownEdges}
use Rattle.edges.specs.WindowTable.{WindowTable, LatestTable}

pub range_edges : RangeEdges
unfolding fresh three open_tests open_window
range_edges = record {
  first_open = λ rows. refl;
  last_open = λ rows. refl;
  both_open = λ rows. refl;
  both_last = refl;
  reversed = λ rows. refl;
  reversed_late = λ rows. refl;
  late = λ rows. refl;
  now = refl;
  words_17 = refl;
  words_19 = refl;
  none = refl;
}

pub read_edges : ReadEdges
unfolding three open_tests open_window
read_edges = record {
  both = refl;
  opened_at = refl;
  opened_after = refl;
  closed_at = refl;
  closed_after = refl;
  acceptor = refl;
  beyond = refl;
  within = refl;
  unused = refl;
}

pub stood_edges : StoodEdges
unfolding three open_tests open_window
stood_edges = record {
  from_first = refl;
  after_it = refl;
  to_last = refl;
  before_it = refl;
  brief = refl;
  inverted = refl;
  greatest_from = refl;
  overlapping = refl;
  greatest_place = refl;
  of_two_blocks = refl;
}

pub unknown_edges : UnknownEdges
unfolding three open_tests open_window
unknown_edges = record { tag_6 = refl; tag_5 = refl; longer = refl; ended = refl; not_yet = refl; never = refl; not_read = refl }

-- ---- the table
pub window_table : WindowTable
unfolding eight open_tests open_window
window_table = record {
  from_1_to_3 = on_eight (λ ws. crosses ws 1 3 48) refl;
  from_5_to_7 = on_eight (λ ws. crosses ws 5 7 48) refl;
  from_6_to_6 = on_eight (λ ws. crosses ws 6 6 48) refl;
  from_7_to_8 = on_eight (λ ws. crosses ws 7 8 48) refl;
  from_0_to_0 = on_eight (λ ws. crosses ws 0 0 48) refl;
  from_0_to_8 = on_eight (λ ws. crosses ws 0 8 48) refl;
  words = on_eight (λ ws. crosses ws 8 8 48) refl;
  reversed = on_eight (λ ws. crosses ws 3 2 48) refl;
  late = on_eight (λ ws. crosses ws 1 9 48) refl;
  short = on_eight (λ ws. crosses ws 1 3 47) refl;
}

pub latest_table : LatestTable
unfolding printed_fresh open_tests open_programs open_window
latest_table = record { before = refl; new_reading = refl; gone = refl; again = refl; brief = refl }
