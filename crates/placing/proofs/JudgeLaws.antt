-- A block that is judged, whichever way its records move: both ways of calls/specs/Placing are cases of `judge_by`.
use Rattle.std.proofs.Common.{◌≡◌, refl, ℕ}
use Rattle.layout.specs.declared.settings.Settings.{Settings}
use Rattle.layout.specs.declared.head.Cursor.{Cursor}
use Rattle.calls.specs.Placing.{move_record, replace, close_full, judge_full, close, judge}
use Rattle.placing.specs.Steps.{judge_by}

module _ (s : Settings) (c : Cursor) (x now : ℕ) where
  pub judge_straight : judge_by move_record s c x now ≡ judge_full s c x now
  unfolding judge_by judge_full close_full
  judge_straight = refl

  pub judge_anew : judge_by replace s c x now ≡ judge s c x now
  unfolding judge_by judge close
  judge_anew = refl
