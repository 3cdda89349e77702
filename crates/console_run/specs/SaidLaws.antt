-- WHAT IS SAID LINE BY LINE: the lines for an input that is fed in parts, and that what is left unread once the run is over would change none
-- of them. Rests on the bytes' laws (FeedLaws.antt).
use Rattle.std.specs.Prelude.{◌≡◌, true, List, [], ◌∷◌, ◌++◌, ℕ}
use Rattle.std.proofs.Common.{sym, ap, ◌∙◌, append_assoc, append-nil}
use Rattle.base.specs.Branch.{by_test}
use Rattle.console_run.specs.Feed.{fed, is_over, ConsoleState, after_byte, fed_all, step_lines, fed_lines, run_lines}
use Rattle.console_run.specs.FeedLaws.{all_none, all_over, all_more, in_chunks, lines_none, lines_over, lines_more}

-- The lines for an input in two parts are those for the parts.
pub lines_in_chunks : (s : ConsoleState) (chunk more : List ℕ) → fed_lines s (chunk ++ more) ≡ fed_lines s chunk ++ fed_lines (fed_all s chunk) more
lines_in_chunks s [] more = rw (lines_none s, all_none s)
lines_in_chunks s (x ∷ chunk) more = by_test (is_over s.console.stage)
    (λ b. fed_lines s (x ∷ (chunk ++ more)) ≡ fed_lines s (x ∷ chunk) ++ fed_lines (fed_all s (x ∷ chunk)) more)
    (λ e. rw (lines_over s (x ∷ (chunk ++ more)) e, lines_over s (x ∷ chunk) e, all_over s (x ∷ chunk) e, lines_over s more e))
    (λ e. let step = step_lines (fed s.console s.lent x) in
    rw (lines_more s x (chunk ++ more) e, lines_more s x chunk e, all_more s x chunk e)
    (ap (λ (l : List (List ℕ)). step ++ l) (lines_in_chunks (after_byte s x) chunk more)
    ∙ sym (append_assoc step (fed_lines (after_byte s x) chunk) (fed_lines (fed_all (after_byte s x) chunk) more))))

-- WHAT IS LEFT UNREAD ONCE THE RUN IS OVER WOULD CHANGE NOTHING.
pub unread : (s : ConsoleState) (input more : List ℕ) → is_over (fed_all s input).console.stage ≡ true → run_lines s (input ++ more) ≡ run_lines s input
unfolding run_lines
unread s input more e =
    rw (
      lines_in_chunks s input more,
      ← in_chunks s input more,
      all_over (fed_all s input) more e,
      lines_over (fed_all s input) more e,
      append-nil (fed_lines s input),
    )
