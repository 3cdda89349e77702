-- The edges hold: each is computed on the words. A change is accepted or refused by its tests alone; only the history
-- that leads to `three` runs programs.
use Rattle.std.specs.Prelude.{◌≡◌, refl, replicate}
use Rattle.calls.specs.Calls.{Start}
use Rattle.calls.specs.Step.{step}
use Rattle.calls.specs.History.{words_after}
use Rattle.calls.specs.Opened.{open_tests, open_programs, open_walk}
use Rattle.edges.specs.EdgesStores.{settings, fresh, three, to_three, wide, six, tree, many}
use Rattle.edges.specs.EdgesChange.{TagEdges, PlaceEdges, TagBlockEdges, AcceptorEdges, RoomEdges}
use Rattle.edges.specs.EdgesLookBack.{AskEdges, WalkEdges, PageEdges}
use Rattle.edges.specs.Edges.{Edges}
use Rattle.edges.specs.EdgesHeadProof.{start_edges, head_edges}
use Rattle.edges.specs.EdgesWordsProof.{word_edges}
use Rattle.edges.specs.EdgesWindowProof.{range_edges, read_edges, stood_edges, unknown_edges, window_table, latest_table}

three_left : words_after (step (replicate 4621 9) (Start settings)).store to_three ≡ three
unfolding three open_tests open_programs
three_left = refl

tag_edges : TagEdges
unfolding three open_tests
tag_edges = record {
  set_open = λ tag reading. refl;
  set_last = refl;
  clear_open = λ tag. refl;
  clear_last = refl;
  update_open = λ tag reading. refl;
  update_last = refl;
  advance_open = refl;
  advance_last = refl;
  set_early = λ tag reading. refl;
  set_now = refl;
  clear_early = λ tag. refl;
  clear_now = refl;
  update_early = λ tag reading. refl;
  update_now = refl;
  advance_early = refl;
  advance_now = refl;
  set_tag_6 = λ reading. refl;
  set_tag_5 = refl;
  clear_tag_6 = refl;
  clear_tag_5 = refl;
  update_tag_6 = λ reading. refl;
  update_tag_5 = refl;
  set_1 = refl;
  set_most = refl;
  set_0 = refl;
  set_first = refl;
  clear_0 = refl;
  clear_1 = refl;
  update_0 = refl;
  update_1 = refl;
}

place_edges : PlaceEdges
unfolding fresh three wide open_tests
place_edges = record {
  sound = (refl, refl);
  above = (refl, refl);
  above_none = (refl, refl);
  earlier = (refl, refl);
  tag_below = (refl, refl);
  tag_above = (refl, refl);
  no_bit = (refl, refl);
  other_bits = (refl, refl);
  high_bit = (refl, refl);
  low_bit = (refl, refl);
}

tag_block_edges : TagBlockEdges
unfolding three open_tests
tag_block_edges = record {
  sound = (refl, refl);
  up_0 = (refl, refl);
  up_1 = (refl, refl);
  up_2 = (refl, refl);
  right_0 = (refl, refl);
  right_2 = (refl, refl);
  right_3 = (refl, refl);
  right_4 = (refl, refl);
  right_next = (refl, refl);
  right_last = (refl, refl);
  bit_4 = (refl, refl);
  bit_5 = (refl, refl);
  bit_32 = (refl, refl);
  tag_5 = (refl, refl);
  tag_6 = (refl, refl);
  ended_tag_6 = (refl, refl);
  stays = (refl, refl);
  stays_high = (refl, refl);
  acceptor_stays = (refl, refl);
}

acceptor_edges : AcceptorEdges
unfolding three wide six open_tests
acceptor_edges = record {
  sound = (refl, refl, refl);
  up_2 = (refl, refl, refl);
  up_3 = (refl, refl, refl);
  right_3 = (refl, refl, refl);
  right_4 = (refl, refl, refl);
  right_8 = (refl, refl, refl);
  bit_4 = (refl, refl, refl);
  bit_5 = (refl, refl, refl);
  bit_32 = (refl, refl, refl);
  tag_5 = (refl, refl, refl);
  tag_6 = (refl, refl, refl);
  stays = (refl, refl, refl);
  room = (refl, refl, refl);
  no_copy = refl;
  none_left = refl;
  own_clear = refl;
  taken = refl;
  taken_alone = refl;
  taken_once = refl;
  taken_high = refl;
  taken_high_alone = refl;
  taken_two = refl;
  taken_two_alone = refl;
  own_three = refl;
  own_two = refl;
  own_high_three = refl;
  own_high_two = refl;
}

room_edges : RoomEdges
unfolding fresh three open_tests
room_edges = record {
  none_left = (refl, refl, refl);
  one_left = (refl, refl, refl);
  set_room = refl;
  clear_room = refl;
  update_less = refl;
  update_room = refl;
  clear_stays = refl;
  clear_none = refl;
  update_stays = refl;
  update_one = refl;
  own_clear = refl;
  own_update = refl;
  own_room = refl;
  first = refl;
  acceptor_first = (refl, refl, refl);
  tag_block_first = (refl, refl);
}

ask_edges : AskEdges
unfolding tree open_walk
ask_edges = record {
  time_open = λ rows list. refl;
  time_last = refl;
  late = λ rows list. refl;
  now = refl;
  rows_8 = refl;
  list_7 = refl;
  enough = refl;
  rows_first = refl;
  list_first = refl;
  rows_kept = refl;
}

walk_edges : WalkEdges
unfolding tree open_walk
walk_edges = record {
  sound = refl;
  tests_12 = refl;
  tests_none = refl;
  up_6 = (refl, refl);
  up_5 = refl;
  last_up_2 = (refl, refl);
  last_up_1 = refl;
  up_above = (refl, refl);
  visited_up = refl;
  neighbour_0 = refl;
  neighbour_2 = (refl, refl);
  neighbour_3 = refl;
  neighbour_5 = refl;
  neighbour_6 = (refl, refl);
  left_2 = (refl, refl);
  left_3 = refl;
  left_5 = refl;
  left_6 = (refl, refl);
  root_0 = refl;
  root_1 = refl;
  root_2 = (refl, refl);
  child_0 = refl;
  child_4 = (refl, refl);
  child_5 = refl;
  child_6 = (refl, refl);
  visited_left_0 = refl;
  visited_left_2 = (refl, refl);
  visited_left_3 = refl;
  visited_left_4 = (refl, refl);
  deep_left_3 = (refl, refl);
  deep_left_4 = (refl, refl);
  deep_child_4 = (refl, refl);
  deep_child_5 = (refl, refl);
  closed_at = refl;
  closed_after = (refl, refl);
  rows_3 = refl;
  rows_4 = (refl, refl);
}

page_edges : PageEdges
unfolding many open_walk
page_edges = record {
  blocks_16 = refl;
  blocks_17 = refl;
  blocks_256 = refl;
  blocks_257 = refl;
  blocks_32 = refl;
  page_at = refl;
  page_before = (refl, refl);
  low_at = refl;
  low_before = (refl, refl);
  middle_at = refl;
  middle_before = (refl, refl);
  top_before = refl;
}

pub edges : Edges
edges = record {
  three_left = three_left;
  start = start_edges;
  head = head_edges;
  tag = tag_edges;
  place = place_edges;
  tag-block = tag_block_edges;
  acceptor = acceptor_edges;
  room = room_edges;
  ask = ask_edges;
  walk = walk_edges;
  page = page_edges;
  range = range_edges;
  read = read_edges;
  stood = stood_edges;
  unknown = unknown_edges;
  window_table = window_table;
  latest_table = latest_table;
  words = word_edges;
}
