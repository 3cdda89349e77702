-- `descend` meets its contract: each way out is a law of the search.
use Rattle.std.proofs.Common.{◌≡◌, Some, ℕ, ◌+◌, ◌*◌, ◌-◌, arith}
use Rattle.layout.specs.Sizes.{page_len}
use Rattle.queries.specs.UnsoundLaws.{unsound_is}
use Rattle.timeslice.specs.SearchLaws.{few_opened, entries_most, entry_page, page_entry, few_read, none_by, some_by, descend_ground, descend_none, descend_stop, descend_on}
use Rattle.timeslice.specs.Searching.{OnPage, OnEntry}
use Rattle.timeslice.proofs.past.Past.+descend.Goals.{Else-l-eq0, In_ok-k}
use Rattle.timeslice.proofs.past.Past.+descend.Goals as goal

-- Above the lowest level an entry has a page below it,
page : {t : ℕ} (c : Else-l-eq0 t) → OnPage c.args.self.now (c.args.l - 1) c.args.e
page c = entry_page c.requires c.if-l-eq0.false

-- whose last entry up to then, if there is one,
some : {t : ℕ} (c : In_ok-k t) → c.look_up.result ≡ Some c.in_ok-k.k
some c = some_by c.ok_or.ensures.ok_part c.in_ok-k.was

-- is one of the level below.
below : {t : ℕ} (c : In_ok-k t) → OnEntry c.args.self.now (c.args.l - 1) (page_len * c.args.e + c.in_ok-k.k)
below c = page_entry (page c.before.before.before.before) c.look_up.ensures (some c)

-- ---- the lowest level
pub overflow_add-e : goal.overflow_add-e
overflow_add-e t c = omega (arith, c.requires.entry, entries_most _ c.args.l (few_opened c.args.self.now))

pub returns-then-l-eq0 : goal.returns-then-l-eq0
returns-then-l-eq0 t c = descend_ground c.args.self.now _ _ c.if-l-eq0.true c.at.ensures

pub look_up-requires : goal.look_up-requires
look_up-requires t c = page c

pub returns-in_err-k : goal.returns-in_err-k
returns-in_err-k t c =
    rw (unsound_is c.from_residual.ensures.0)
    (descend_none c.args.self.now _ _ c.if-l-eq0.false c.look_up.ensures (none_by c.ok_or.ensures.ok_part c.in_err-k.was))

pub overflow_mul-e : goal.overflow_mul-e
overflow_mul-e t c = omega (arith, (page c.before.before.before.before).some, entries_most _ (c.args.l - 1) (few_opened c.args.self.now))

pub overflow_add-e-2 : goal.overflow_add-e-2
overflow_add-e-2 t c = omega (arith, (below c).entry, entries_most _ (c.args.l - 1) (few_opened c.args.self.now))

pub descend-requires : goal.descend-requires
descend-requires t c = (omega (arith, c.decreases, c.if-l-eq0.false), below c)

-- ---- what lies below it
pub returns-in_err-found : goal.returns-in_err-found
returns-in_err-found t c =
    rw (unsound_is c.from_residual-in_err-found.ensures.0)
    (descend_stop c.args.self.now _ _ c.if-l-eq0.false c.look_up.ensures (some c.before.before.before.before) c.descend.ensures c.in_err-found.was)

pub passing-requires-clause-few : goal.passing-requires-clause-few
passing-requires-clause-few t c = few_read c.args.self.now (below c.before.before.before) c.descend.ensures c.in_ok-found.was

pub returns : goal.returns
returns t c =
    descend_on c.args.self.now _ _ c.if-l-eq0.false c.look_up.ensures (some c.before.before.before.before) c.descend.ensures c.requires c.in_ok-found.was
    c.passing.ensures
