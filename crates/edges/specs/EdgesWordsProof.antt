-- The edges of what is written hold: computed on the words.
use Rattle.std.specs.Prelude.{refl}
use Rattle.calls.specs.Opened.{open_tests, open_programs, open_walk}
use Rattle.calls.specs.Table.{fresh as printed_fresh, after7, after8}
use Rattle.edges.specs.EdgesStores.{three}
use Rattle.edges.specs.EdgesWords.{WordEdges}

pub word_edges : WordEdges
unfolding three printed_fresh after7 after8 open_tests open_programs open_walk
word_edges = record { start_beyond = refl; head_after_8 = refl; opened = refl; damaged_since = refl; damaged_since_copied = refl }
