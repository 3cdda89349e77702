-- What the code holds of a line is told by the line's text alone, so that it may be copied.
use Rattle.std.specs.Prelude.{◌≡◌, refl, List, ℕ, ◌+◌, ◌-◌, ◌≤◌, length, take, drop, replicate, Option, Some, None}
use Rattle.std.proofs.Common.{ap, ◌∙◌, arith, set, length-take-le, take-append-drop}
use Rattle.std.proofs.lemmas.List.{drop-drop, drop-replicate, drop-set-lt}
use Rattle.console_text.specs.Lines.{line_most, held, holding, padded}

pub holding_held : (o : Option (List ℕ)) → holding (held o) ≡ o
holding_held (Some bytes) = refl
holding_held None = refl

-- In a line's room there are zeros behind its first n bytes.
module _ (n : ℕ) (room : List ℕ) where
  pub padded_take : n ≤ length room → drop n room ≡ replicate (line_most - n) 0 → padded (take n room) ≡ room
  padded_take fits zeros = rw (length-take-le n room fits, ← zeros) (take-append-drop n room)

  -- A byte behind the first n leaves zeros behind it.
  pub padded_set : (x : ℕ) → drop n room ≡ replicate (line_most - n) 0 → drop (n + 1) (set room n x) ≡ replicate (line_most - (n + 1)) 0
  padded_set x zeros =
      let fewer : line_most - n - 1 ≡ line_most - (n + 1) = omega arith in
      drop-set-lt (n + 1) room n x (omega arith)
      ∙ rw (← drop-drop 1 n room, zeros, drop-replicate) (ap (λ (m : ℕ). replicate m 0) fewer)
