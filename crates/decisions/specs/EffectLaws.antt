-- What a change will do: free slots taken one by one, few copies, and places within the blocks opened.
use Rattle.std.specs.Prelude.{◌≡◌, refl, Bool, true, false, not, ℕ, suc, ◌+◌, ◌-◌, ◌≤◌, ◌<◌, eqb, ltb, length}
use mir.Val.{bool_byte}
use Rattle.std.proofs.Common.{sym, ap, ◌∙◌, arith, ltb-true, ne_eqb, lt-ltb, le-ltb}
use Rattle.base.specs.Branch.{lt?, cond_all, and-true}
use Rattle.layout.specs.declared.head.Head.{Head}
use Rattle.layout.specs.declared.standing.Standing.{Standing}
use Rattle.layout.specs.Address.{Numbered}
use Rattle.layout.specs.Memory.{Memory}
use Rattle.layout.specs.Settings.{Within}
use Rattle.layout.specs.HeadLaws.{SoundHead}
use Rattle.layout.specs.Spot.{Lies}
use Rattle.layout.specs.Standing.{slots, raised}
use Rattle.calls.specs.Placing.{block_of, slot_of}
use Rattle.decisions.specs.Verdict.{more}
use Rattle.calls.specs.Refusals.{opens, taken_up, closes, copies, remaining}

-- the acceptor, with standing bits b, has fewer than q standing once its free slots are taken (`acceptor_closes` where a block opens)
abbrev pub few_when_full : Head → Standing → Bool
few_when_full h b = ltb (length (slots (taken_up b h.cursor.fill (h.settings.block - h.cursor.fill)))) h.settings.useful

-- One slot taken, the others are left.
pub taken_more : (b : Standing) (k to : ℕ) → k < to → taken_up b k (to - k) ≡ taken_up (raised b k) (k + 1) (to - (k + 1))
taken_more b k to h = let e : to - k ≡ suc (to - (k + 1)) = omega arith in rw e

pub taken_none : (b : Standing) (k to : ℕ) → to ≤ k → taken_up b k (to - k) ≡ b
taken_none b k to h = let e : to - k ≡ 0 = omega arith in rw e

-- A block that closes has fewer than q standing, so its copies are few.
pub copies_few : (h : Head) (f : Memory) (n : ℕ) → Within h.settings → copies h f n ≤ 32
copies_few h f n w = cond_all (λ (x : ℕ). x ≤ 32) (closes h f n)
    (λ e. omega (arith, w, ltb-true (remaining h f n) h.settings.useful (and-true (not (eqb n h.cursor.opened)) _ e).1))
    (λ e. omega arith)

-- Free slots that are fewer than the records that come in.
pub opens_some : (h : Head) (incoming : ℕ) → SoundHead h → (incoming ≡ 0 → ⊥) → (h.cursor.opened ≡ 0 → ⊥)
    → ltb (h.settings.block - h.cursor.fill) incoming ≡ opens h incoming
opens_some h n g a d = lt? (h.settings.block - h.cursor.fill) n
    (λ l. simp (lt-ltb 0 n (omega arith), ne_eqb _ _ d, lt-ltb _ _ l, lt-ltb h.settings.block (h.cursor.fill + n) (omega (arith, g.fill))))
    (λ l. simp (lt-ltb 0 n (omega arith), ne_eqb _ _ d, le-ltb _ _ l, le-ltb h.settings.block (h.cursor.fill + n) (omega (arith, g.fill))))

-- ---- how many remain, of the standing bits x
pub remaining_of : {x b : Standing} {r : ℕ} → b ≡ x → r ≡ length (slots b) → length (slots x) - 1 ≡ r - 1
remaining_of e g = ap (λ (y : Standing). length (slots y) - 1) (sym e) ∙ ap (λ (y : ℕ). y - 1) (sym g)

-- ---- the block and the slot of a place, as the code has them
pub numbered_at : {h : Head} {p n : ℕ} → Lies h p → n ≡ block_of h.settings p → Numbered h.settings n
numbered_at i e = rw e i.block

pub slot_at : {h : Head} {p k : ℕ} → Lies h p → k ≡ slot_of h.settings p → k < h.settings.block
slot_at i e = rw e i.slot

-- ---- one more record for a new reading, as a word
pub more_word : (renews : Bool) → bool_byte renews ≡ more renews
more_word true = refl
more_word false = refl

pub more_few : (renews : Bool) → bool_byte renews ≤ 1
more_few true = omega arith
more_few false = omega arith
