-- What an answered look-back says by itself, on any words (ViewClaims): it is the walk's answer under a head that passed, its list names no block twice,
-- its three numbers count rows, pages and blocks, and the buffers hold rows and list.
use Rattle.std.specs.Prelude.{◌≡◌, Bool, true, false, cond, not, ◌||◌, ℕ, ◌≤◌, ltb, length, get_or}
use Rattle.std.proofs.Math.Path.{refl}
use Rattle.std.proofs.Common.{ap, ◌∙◌, sym, arith, ltb-false}
use Rattle.std.proofs.lemmas.Bool.{false≢true, not-false}
use mathlib.Core.List.{List, [], ◌∷◌, Nodup}
use Rattle.std.proofs.Math.Dec.{eqb}
use Rattle.base.specs.Branch.{or-false}
use Rattle.base.specs.SameRows.{once_nodup}
use Rattle.layout.specs.Sizes.{OPEN, mark, head_len}
use Rattle.layout.specs.Fields.{head_mark}
use Rattle.layout.specs.Settings.{in_limits}
use Rattle.layout.specs.SettingsLaws.{limits_within}
use Rattle.layout.specs.Head.{head_of, bad_head, fill_fits, spare_zero}
use Rattle.calls.specs.Calls.{Ask, LookBack, View, Shown, Refused}
use Rattle.calls.specs.Walk.{Pass, Looked, unsoundly, looked}
use Rattle.calls.specs.Refusals.{refusal, look_back_tests}
use Rattle.calls.specs.LookBack.{SliceReply, reader, look_at, look_back, view_of, row_words, written, is_unsound, seen}
use Rattle.calls.specs.Step.{step}
use Rattle.calls.specs.Claims.{passed_pages}
use Rattle.theory.specs.Listed.{path_apart}
use Rattle.theory.specs.FoundWalk.{look_parts}
use Rattle.theory.specs.Passes.{passes_counted}

-- ---- a look-back that is answered

-- the walk's view, in the buffers, under a head that passed
pub record Seen (ws : List ℕ) (t : ℕ) (rows list : List ℕ) (v : View) : Type 0 where
  pub passes : List Pass
  pub walked : look_at ws t ≡ looked v.rows v.list passes
  pub view : v ≡ view_of v.rows v.list passes
  pub passed : bad_head ws ≡ false
  pub reply : look_back ws t rows list ≡ record {
    answer = Shown v;
    rows = written (row_words v.rows) rows;
    list = written v.list list;
  }

-- the reply, by the refusal's number and by whether that is 0 or 12
abbrev pub refused_by : List ℕ → ℕ → List ℕ → List ℕ → Looked → ℕ
refused_by ws t rows list w = refusal (look_back_tests ws t (length rows) (length list) (is_unsound w))

abbrev pub reply_to : List ℕ → List ℕ → Looked → ℕ → Bool → SliceReply
reply_to rows list w n c = cond c (seen rows list w) (record { answer = Refused n; rows = rows; list = list })

never : {A : Type 0} {n : ℕ} {v : View} → Refused n ≡ Shown v → A
never e = absurd (let z : ◌≡◌ {A = ℕ} 0 1 = cc in omega arith)

-- neither of the first two refusals, 2 and 3, came
head_passed : (short bad : Bool) (n : ℕ)
    → (eqb (cond short 2 (cond bad 3 n)) 0 || eqb (cond short 2 (cond bad 3 n)) 12) ≡ true → bad ≡ false
head_passed true bad n e = absurd (false≢true e)
head_passed false true n e = absurd (false≢true e)
head_passed false false n e = refl

module _ (ws : List ℕ) (t : ℕ) (rows list : List ℕ) (v : View) where
  -- what is shown comes from a test that passed
  shown_by : (w : Looked) (n : ℕ) (c : Bool) → (reply_to rows list w n c).answer ≡ Shown v → (c ≡ true) × ((seen rows list w).answer ≡ Shown v)
  shown_by w n true e = (refl, e)
  shown_by w n false e = never e

  pub shown_seen : (step ws (Ask (LookBack t rows list))).answer ≡ Shown v → Seen ws t rows list v
  unfolding look_back
  shown_seen e = from_walk (look_at ws t) refl e
    where
      from_walk : (w : Looked) → look_at ws t ≡ w
          → (let n = refused_by ws t rows list w in reply_to rows list w n (eqb n 0 || eqb n 12)).answer ≡ Shown v
          → Seen ws t rows list v
      from_walk unsoundly i e =
          let n = refused_by ws t rows list unsoundly in
          never (shown_by unsoundly n (eqb n 0 || eqb n 12) e).1
      from_walk (looked r l ps) i e =
          let n = refused_by ws t rows list (looked r l ps) in
          let x = shown_by (looked r l ps) n (eqb n 0 || eqb n 12) e in
          let j : view_of r l ps ≡ v = cc x.1 in
          rw (← j) (record {
            passes = ps;
            walked = i;
            view = refl;
            passed = head_passed (ltb (length ws) head_len) (bad_head ws) _ x.0;
            reply = rw (i, x.0);
          })

-- A head that passed has opened at most B blocks, and B is at most 4,096.
pub few_blocks : (ws : List ℕ) → bad_head ws ≡ false → let h = head_of ws in (h.cursor.opened ≤ h.settings.blocks) × (h.settings.blocks ≤ 4096)
unfolding bad_head
few_blocks ws e =
    let h = head_of ws in
    let fill = or-false _ (not (fill_fits h)) e in
    let spare = or-false _ (not (spare_zero ws)) fill.0 in
    let clock = or-false _ (eqb h.cursor.clock OPEN) spare.0 in
    let blocks = or-false _ (ltb h.settings.blocks h.cursor.opened) clock.0 in
    let limits = or-false (not (eqb (get_or ws head_mark 0) mark)) (not (in_limits h.settings)) blocks.0 in
    (ltb-false _ _ blocks.1, (limits_within h.settings (not-false _ limits.1)).blocks)

-- ---- what the view says by itself

pub record ViewClaims (ws : List ℕ) (t : ℕ) (rows list : List ℕ) (v : View) : Type 0 where
  pub walk : (ps : List Pass) × (look_at ws t ≡ looked v.rows v.list ps) × (v ≡ view_of v.rows v.list ps)
  pub listed_once : Nodup v.list
  pub rows_counted : v.counts.rows ≡ length v.rows
  pub pages_counted : v.counts.pages ≡ passed_pages v.pages
  pub blocks_counted : v.counts.blocks ≡ length v.list
  pub given : (step ws (Ask (LookBack t rows list))).lent ≡ written (row_words v.rows) rows ∷ written v.list list ∷ []

pub view_claims : (ws : List ℕ) (t : ℕ) (rows list : List ℕ) (v : View) → (step ws (Ask (LookBack t rows list))).answer ≡ Shown v → ViewClaims ws t rows list v
unfolding look_at
view_claims ws t rows list v e =
    let x = shown_seen ws t rows list v e in
    let h = head_of ws in
    let few = few_blocks ws x.passed in
    let counted = passes_counted h.settings.block h.settings.tags h.cursor.opened t (reader ws) (omega (arith, few.0, few.1)) x.walked in
    record {
      walk = (x.passes, x.walked, x.view);
      listed_once = once_nodup (path_apart h.settings.block t (reader ws) (look_parts x.walked).walked).once;
      rows_counted = ap (λ (v : View). v.counts.rows) x.view;
      pages_counted = ap (λ (v : View). v.counts.pages) x.view ∙ sym (ap (λ (v : View). passed_pages v.pages) x.view ∙ counted);
      blocks_counted = ap (λ (v : View). v.counts.blocks) x.view;
      given = ap (λ (r : SliceReply). r.rows ∷ r.list ∷ []) x.reply;
    }
