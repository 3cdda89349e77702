-- THE EDGES OF THE REFUSALS (document 01, "When a call is turned away"; document 02), as one statement about the definitions: of
-- each refusal of each call, and of each clause of 3, 11 and 12, an example where it is the first that applies, and
-- beside it, one word or one argument off, an example where it is not.
use Rattle.std.specs.Prelude.{◌≡◌, replicate}
use Rattle.calls.specs.Calls.{Start}
use Rattle.calls.specs.Step.{step}
use Rattle.calls.specs.History.{words_after}
use Rattle.edges.specs.EdgesStores.{settings, three, to_three}
use Rattle.edges.specs.EdgesHead.{StartEdges, HeadEdges}
use Rattle.edges.specs.EdgesChange.{TagEdges, PlaceEdges, TagBlockEdges, AcceptorEdges, RoomEdges}
use Rattle.edges.specs.EdgesWords.{WordEdges}
use Rattle.edges.specs.EdgesLookBack.{AskEdges, WalkEdges, PageEdges}
use Rattle.edges.specs.EdgesWindow.{RangeEdges, ReadEdges, StoodEdges, UnknownEdges}
use Rattle.edges.specs.WindowTable.{WindowTable, LatestTable}

pub record Edges : Type 0 where
  -- the store that the edges of a change set out from is one that a history leaves
  pub three_left : words_after (step (replicate 4621 9) (Start settings)).store to_three ≡ three
  -- 1, 2 and 4 of a start
  pub start : StartEdges
  -- 2, 3 and 4 of every other call
  pub head : HeadEdges
  -- of a change or clock move: 5, 6, 8, 9, 10
  pub tag : TagEdges
  -- 12: the tag's place, the tag's block that will close, the acceptor that will close
  pub place : PlaceEdges
  pub tag-block : TagBlockEdges
  pub acceptor : AcceptorEdges
  -- 13
  pub room : RoomEdges
  -- of a look-back: 5, 7, 11
  pub ask : AskEdges
  -- 12: path and visits, and the pages of the index
  pub walk : WalkEdges
  pub page : PageEdges
  -- of a window: 5, 14, 7, 11; which blocks are read, which records stood in it and which is latest; 12
  pub range : RangeEdges
  pub read : ReadEdges
  pub stood : StoodEdges
  pub unknown : UnknownEdges
  -- windows over the printed case, and after short histories
  pub window_table : WindowTable
  pub latest_table : LatestTable
  -- words that are written, and words that are not
  pub words : WordEdges
