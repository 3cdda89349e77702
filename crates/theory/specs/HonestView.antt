-- AN ANSWERED LOOK-BACK ON HONEST WORDS: its rows are the log's at t, each condition once; its list keeps the bounds by the blocks that the book has
-- open at t.
use Rattle.std.specs.Prelude.{◌≡◌, false, List, ℕ, ◌+◌, ◌*◌, ◌≤◌, ◌<◌, length}
use Rattle.std.proofs.Math.Path.{sym}
use Rattle.std.proofs.Common.{ap, ◌∙◌, arith, leb-false}
use Rattle.base.specs.Sums.{All, cons}
use Rattle.base.specs.SameRows.{Same, same_perm}
use Rattle.layout.specs.Sizes.{OPEN}
use Rattle.calls.specs.Calls.{Ask, LookBack, Row, View, Shown, accepted}
use Rattle.calls.specs.LookBack.{reader}
use Rattle.calls.specs.Step.{step, tests_of}
use Rattle.calls.specs.Book.{open_at}
use Rattle.calls.specs.Log.{state_at}
use Rattle.calls.specs.History.{Account}
use Rattle.calls.specs.Claims.{Answered}
use Rattle.theory.specs.Effects.{view}
use Rattle.theory.specs.LogLaws.{row_discrete}
use Rattle.theory.specs.MemberLaws.{unique_nodup}
use Rattle.theory.specs.RecordRows.{rows_log}
use Rattle.theory.specs.EnoughRows.{rows_enough}
use Rattle.theory.specs.Rest.{booked_useful, booked_open_at}
use Rattle.theory.specs.Right.{RightLook, blocks_open, walk_right}
use Rattle.theory.specs.ViewClaims.{view_claims}
use Rattle.theory.specs.AnyCall.{every_call}
use Rattle.theory.specs.LookReady.{weigh_records, rows_are}
use Rattle.theory.specs.Honest.{Honest, head_is, sound}

same_bound : {x y q r : ℕ} (n : ℕ) → x ≡ y → q ≡ r → x * q ≤ n + q → y * r ≤ n + r
same_bound n e g h = rw (e, g) at h

module _ {ws : List ℕ} {a : Account} (i : Honest ws a) (t : ℕ) where
  open_is : blocks_open i.cursor.opened t (view i.cursor i.memory) ≡ open_at t a.book.blocks
  unfolding blocks_open
  open_is = sym (booked_open_at i.booked t)

  -- what the walk found is right
  module _ {r : List Row} {l : List ℕ} (w : RightLook a.settings.block i.cursor.opened t (reader ws) (view i.cursor i.memory) r l) (o : t < OPEN) where
    rows_same : Same r (state_at a.log t)
    rows_same = record {
      sums = λ x. w.sum x ∙ weigh_records i.stored i.rest.full.state t x ∙ (rows_log i.rest.full.state.kept t i.once i.rest.full.state.told o).sums x;
    }

    rows_useful : open_at t a.book.blocks * a.book.q ≤ length r + a.book.q
    rows_useful = same_bound (length r) open_is (booked_useful i.booked) (w.dense a.settings.useful (λ n l h x y.
        rw (rows_are i.stored i.rest.full.state t n l (omega arith))
        (rows_enough i.rest.full.state.kept (i.rest.full.useful.at t n l h x y o (λ e. absurd (omega arith))))))

  -- an answered look-back is asked for a second
  second : (rows list : List ℕ) → All (λ x. x.applies ≡ false) (tests_of ws (Ask (LookBack t rows list))) → t < OPEN
  second rows list (cons x₂ (cons x₃ (cons x₄ (cons x₅ r)))) = leb-false OPEN t x₅

  pub answered : (rows list : List ℕ) (v : View) → (step ws (Ask (LookBack t rows list))).answer ≡ Shown v → Answered ws a t rows list v
  answered rows list v e =
      let k = view_claims ws t rows list v e in
      let o = second rows list ((every_call ws (Ask (LookBack t rows list))).accepted_iff.0 (ap accepted e)) in
      let w : RightLook a.settings.block i.cursor.opened t (reader ws) (view i.cursor i.memory) v.rows v.list =
      rw (head_is i) at (walk_right ws (sound i t o) k.walk.1) in
      record {
        walk = k.walk;
        log = same_perm row_discrete (rows_same w o);
        once = unique_nodup (λ (x : Row). x.tag) {l = v.rows} (record { once = w.once });
        listed_once = k.listed_once;
        twofold = omega (arith, w.half, open_is);
        useful = rows_useful w o;
        rows_counted = k.rows_counted;
        pages_counted = k.pages_counted;
        blocks_counted = k.blocks_counted;
        given = k.given;
      }
