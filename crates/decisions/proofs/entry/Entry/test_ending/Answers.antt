-- `Entry::test_ending` meets its contract: the place, the block that closes, and the acceptor if a block opens.
use mathlib.Core.Path.{refl, sym, ◌∙◌}
use Rattle.layout.specs.Spot.{Lies}
use Rattle.decisions.specs.Ready.{words_in}
use Rattle.decisions.specs.Verdict.{more}
use Rattle.decisions.specs.EffectLaws.{numbered_at}
use Rattle.decisions.specs.SoundLaws.{Ending, place_in, end_place, end_closing, end_rests, end_acceptor, end_out}
use Rattle.decisions.proofs.entry.Entry.test_ending.Goals.{After-block, After-incoming-incoming}
use Rattle.decisions.proofs.entry.Entry.test_ending.Goals as goal

-- Once its place has passed, it lies in the store;
lies : (c : After-block) → Lies c.args.self.now.found.now.head c.args.self.now.place
lies c = let e = c.args.self.now in place_in _ _ _ e.found.now.readable.sound e.place_of.is e.place_of.some (sym c.place_is_bad.ensures ∙ c.if-place_is_bad.false)

-- and once its block has passed, only the acceptor and a block to open are left.
ends : (c : After-incoming-incoming) → let o = c.args.self.now.found.now in
    Ending (more c.args.renews) o.head (words_in o) c.args.self.now.tag c.args.self.now.place c.block.result c.incoming-incoming.result
ends c = record {
  is = c.args.self.now.place_of.is;
  in-block = c.block.ensures;
  brings = c.incoming-incoming.ensures;
  place = sym c.place_is_bad.ensures ∙ c.if-place_is_bad.false;
  closing = sym c.closing_is_bad.ensures ∙ c.if-closing_is_bad.false;
}

pub returns-then-place_is_bad : goal.returns-then-place_is_bad
returns-then-place_is_bad c = end_place _ _ _ _ c.args.self.now.place_of.is refl (sym c.place_is_bad.ensures ∙ c.if-place_is_bad.true)

pub invariant_of-block : goal.invariant_of-block
invariant_of-block c = record { numbered = numbered_at (lies c) c.block.ensures }

pub returns-then-closing_is_bad : goal.returns-then-closing_is_bad
returns-then-closing_is_bad c =
    end_closing _ _ _ _ c.args.self.now.place_of.is c.block.ensures
    (sym c.place_is_bad.ensures ∙ c.if-place_is_bad.false) (sym c.closing_is_bad.ensures ∙ c.if-closing_is_bad.true)

pub returns-then-not-opens : goal.returns-then-not-opens
returns-then-not-opens c = end_rests _ _ (ends (goal.at.returns-then-not-opens c).After-incoming-incoming) (sym c.opens.ensures ∙ c.if-not-opens.true)

pub acceptor_is_bad-requires : goal.acceptor_is_bad-requires
acceptor_is_bad-requires c = lies (goal.at.acceptor_is_bad-requires c).After-block

pub returns-then-acceptor_is_bad : goal.returns-then-acceptor_is_bad
returns-then-acceptor_is_bad c =
    end_acceptor _ _ (ends (goal.at.returns-then-acceptor_is_bad c).After-incoming-incoming) (sym c.opens.ensures ∙ c.if-not-opens.false)
    (sym c.acceptor_is_bad.ensures ∙ c.if-acceptor_is_bad.true)

pub returns : goal.returns
returns c =
    end_out _ _ (ends (goal.at.returns c).After-incoming-incoming) (sym c.opens.ensures ∙ c.if-not-opens.false)
    (sym c.acceptor_is_bad.ensures ∙ c.if-acceptor_is_bad.false) c.test_opening.ensures
