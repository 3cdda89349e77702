-- `search` meets its contract: each way out is a law of the search.
use Rattle.std.proofs.Common.{arith}
use Rattle.queries.specs.UnsoundLaws.{unsound_is}
use Rattle.timeslice.specs.SearchLaws.{top_page, top_entry, few_read, search_empty, search_before, search_stop, search_on}
use Rattle.timeslice.specs.Searching.{OnPage, OnEntry}
use Rattle.timeslice.proofs.past.Past.search.Goals.{In-Some}
use Rattle.timeslice.proofs.past.Past.search.Goals as goal

-- The top page has an entry, since a block is opened,
top : (c : goal.After-top_level-top) → OnPage c.args.self.now c.top_level-top.result 0
top c = top_page c.args.self.now c.if-opened-eq0.false c.top_level-top.ensures

-- and its last entry up to then is one of its level.
last : (c : In-Some) → OnEntry c.args.self.now c.top_level-top.result c.in-Some.k
last c = top_entry (top c.before.before) c.look_up.ensures c.in-Some.is

pub returns-then-opened-eq0 : goal.returns-then-opened-eq0
returns-then-opened-eq0 c = search_empty c.args.self.now c.if-opened-eq0.true c.at.ensures

pub look_up-requires : goal.look_up-requires
look_up-requires c = top c

-- ---- the top page has no entry up to then
pub passing-requires-clause-level : goal.passing-requires-clause-level
passing-requires-clause-level c = (top c.before.before.before).three

pub returns-in_default : goal.returns-in_default
returns-in_default c =
    search_before c.args.self.now c.if-opened-eq0.false c.top_level-top.ensures c.look_up.ensures (search Rattle.std.proofs.Common.rules)
    c.at-in_default.ensures c.passing.ensures

-- ---- or the search goes down from its last
pub descend-requires : goal.descend-requires
descend-requires c = last c

pub returns-in_err-found : goal.returns-in_err-found
returns-in_err-found c =
    rw (unsound_is c.from_residual.ensures.0)
    (search_stop c.args.self.now c.if-opened-eq0.false c.top_level-top.ensures c.look_up.ensures c.in-Some.is c.descend.ensures c.in_err-found.was)

pub passing-requires-2-clause-few : goal.passing-requires-2-clause-few
passing-requires-2-clause-few c = few_read c.args.self.now (last c.before.before.before) c.descend.ensures c.in_ok-found.was

pub passing-requires-2-clause-level : goal.passing-requires-2-clause-level
passing-requires-2-clause-level c = (last c.before.before.before).three

pub returns : goal.returns
returns c =
    search_on c.args.self.now c.if-opened-eq0.false c.top_level-top.ensures c.look_up.ensures c.in-Some.is c.descend.ensures c.in_ok-found.was
    c.passing-2.ensures
