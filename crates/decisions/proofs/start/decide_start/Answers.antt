-- `start::decide_start` meets its contract: the settings first, then the store.
use lib.ListN.{length}
use borrow.Author.Tests.{lt-ltb, le-ltb}
use Rattle.layout.specs.RefusalLaws.{err_kept}
use Rattle.decisions.specs.TestLaws.{hit, miss, none, short_by}
use Rattle.decisions.specs.StartLaws.{settings_within, settings_refused, store_refused, store_passed}
use Rattle.decisions.proofs.start.decide_start.Goals as goal

pub returns-in_err-settings : goal.returns-in_err-settings
returns-in_err-settings c = rw (err_kept c.from_residual.ensures.1) (settings_refused c.args.asked c.args.store.now c.in_err-settings.ensures)

pub returns-then-store-lt-HEAD_LEN : goal.returns-then-store-lt-HEAD_LEN
returns-then-store-lt-HEAD_LEN c =
    store_refused c.args.asked c.args.store.now c.in_ok-settings.ensures (hit (lt-ltb _ _ c.if-store-lt-HEAD_LEN.true))

pub words-requires : goal.words-requires
words-requires c = settings_within c.args.asked c.in_ok-settings.ensures

pub returns-then-store-words : goal.returns-then-store-words
returns-then-store-words c =
    store_refused c.args.asked c.args.store.now c.in_ok-settings.ensures
    (miss (le-ltb _ _ c.if-store-lt-HEAD_LEN.false)
    (hit (short_by (length c.args.store.now) c.words.ensures.is (lt-ltb _ _ c.if-store-words.true))))

pub returns : goal.returns
returns c =
    store_passed c.args.asked c.args.store.now c.in_ok-settings.ensures
    (miss (le-ltb _ _ c.if-store-lt-HEAD_LEN.false)
    (miss (short_by (length c.args.store.now) c.words.ensures.is (le-ltb _ _ c.if-store-words.false)) none))
