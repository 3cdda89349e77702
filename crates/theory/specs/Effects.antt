-- The links, records, directory and standing bits that a cursor and a memory hold, and what the parts of a change do to them: `unlink` is a leaving of the
-- row (Unlinked), `open_block` an opening at its end (Opened) with a block that has no record, and records are ended and placed.
use Rattle.std.specs.Prelude.{◌≡◌, Bool, true, false, ◌≢◌, ℕ, ◌+◌, ◌≤◌, eqb}
use Rattle.std.proofs.Math.Path.{refl, ap}
use Rattle.std.proofs.Common.{sym, ◌∙◌, subst, arith, eqb-true, ne_eqb}
use Rattle.std.proofs.Math.Bool.{cond}
use Rattle.std.proofs.lemmas.Bool.{eqb-false}
use Rattle.base.specs.Branch.{cond_all, eqb_same}
use Rattle.layout.specs.declared.head.Cursor.{Cursor}
use Rattle.layout.specs.declared.address.Address.{Address}
use Rattle.layout.specs.declared.address.Address.TheVariants.{Head, Time, Dir, Field, Bits, Slot}
use Rattle.layout.specs.Sizes.{OPEN}
use Rattle.layout.specs.Fields.{opened_word, closed_word, up_word, left_word, child_word, right_word, tag_word, from_word, to_word}
use Rattle.layout.specs.Memory.{Memory}
use Rattle.layout.specs.Program.{run_on}
use Rattle.layout.specs.declared.settings.Settings.{Settings}
use Rattle.layout.specs.declared.payload.Payload.{Payload}
use Rattle.layout.specs.Payload.{payload_at}
use Rattle.layout.specs.PartsLaws.{payload_same}
use Rattle.calls.specs.Placing.{enter_time, open_block, unlink, place_of, end_record, put_record}
use Rattle.theory.specs.Row.{Put, Unlinked, Opened, BlockView}
use Rattle.theory.specs.RunLaws.{met, ◌then◌, Only, framed}
use Rattle.theory.specs.Records.{Records, ended_at, PutAt, Emptied}
use Rattle.theory.specs.Marks.{Marks, PutBit, apart_false, bit_on, bit_out}

-- block 0's word is z, the others' are g's
abbrev pub with_first : ℕ → (ℕ → ℕ) → ℕ → ℕ
with_first z g n = cond (eqb n 0) z (g n)

-- the links of a memory, with block 0's last child and right from the head; block 0 never closes
abbrev pub view_of : ℕ → ℕ → Memory → BlockView
view_of child right f = record {
  opened = λ n. f (Field n opened_word);
  closed = with_first OPEN (λ n. f (Field n closed_word));
  up = λ n. f (Field n up_word);
  left = λ n. f (Field n left_word);
  child = with_first child (λ n. f (Field n child_word));
  right = with_first right (λ n. f (Field n right_word));
}

abbrev pub view : Cursor → Memory → BlockView
view c f = view_of c.child c.right f

-- a block's closed word is what the view has
pub closed-word : (c : Cursor) (f : Memory) (n : ℕ) → 1 ≤ n → (view c f).closed n ≡ f (Field n closed_word)
closed-word c f n h = rw (ne_eqb n 0 (omega arith))

-- ---- one word changed
pub put_is : (f : ℕ → ℕ) (x y : ℕ) → Put f (λ n. cond (eqb x n) y (f n)) x y
put_is f x y = record { here = simp eqb_same; other = λ n d. simp (ne_eqb x n (λ z. d (sym z))) }

put_later : (z : ℕ) (g : ℕ → ℕ) (x y : ℕ) → 1 ≤ x → Put (with_first z g) (with_first z (λ n. cond (eqb x n) y (g n))) x y
put_later z g x y h = record { here = simp (ne_eqb x 0 (omega arith), eqb_same); other = λ n d. simp (ne_eqb x n (λ e. d (sym e))) }

put_first : (z : ℕ) (g : ℕ → ℕ) (x y : ℕ) → x ≡ 0 → Put (with_first z g) (with_first y g) x y
put_first z g x y h = record { here = rw h; other = λ n d. simp (ne_eqb n 0 (λ e. d (e ∙ sym h))) }

-- a word of a block that was just set to zero
put_new : (f : ℕ → ℕ) (x y : ℕ) → Put f (λ n. cond (eqb x n) y (cond (eqb x n) 0 (f n))) x y
put_new f x y = record { here = simp eqb_same; other = λ n d. simp (ne_eqb x n (λ z. d (sym z))) }

put_later_new : (z : ℕ) (g : ℕ → ℕ) (x y : ℕ) → 1 ≤ x → Put (with_first z g) (with_first z (λ n. cond (eqb x n) y (cond (eqb x n) 0 (g n)))) x y
put_later_new z g x y h = record { here = simp (ne_eqb x 0 (omega arith), eqb_same); other = λ n d. simp (ne_eqb x n (λ e. d (sym e))) }

-- ---- a block leaves the row
pub unlink_effect : (c : Cursor) (f : Memory) (x now : ℕ) → 1 ≤ x → let z = run_on (unlink c x now) f in Unlinked (view c f) (view z.0 z.1) x now
unfolding unlink
unlink_effect c f x now some =
    let up = f (Field x up_word) in
    let right = f (Field x right_word) in
    let d : eqb x 0 ≡ false = ne_eqb x 0 (omega arith) in
    cond_all (λ (z : Cursor × Memory). Unlinked (view c f) (view z.0 z.1) x now) (eqb up 0)
    (λ e. record {
      opened = λ n. refl;
      closed = put_later OPEN (λ n. f (Field n closed_word)) x now some;
      up = rw d (put_is (λ n. f (Field n up_word)) right up);
      right = rw d (put_first c.right (λ n. f (Field n right_word)) up right (eqb-true up 0 e));
      left = rw e (put_is (λ n. f (Field n left_word)) x c.child);
      child = put_first c.child (λ n. f (Field n child_word)) up x (eqb-true up 0 e);
    })
    (λ e.
    let up1 : 1 ≤ up = omega (arith, eqb-false up 0 e) in
    record {
      opened = λ n. refl;
      closed = put_later OPEN (λ n. f (Field n closed_word)) x now some;
      up = rw d (put_is (λ n. f (Field n up_word)) right up);
      right = rw d (put_later c.right (λ n. f (Field n right_word)) up right up1);
      left = rw e (put_is (λ n. f (Field n left_word)) x (f (Field up child_word)));
      child = put_later c.child (λ n. f (Field n child_word)) up x up1;
    })

-- ---- a block opens
-- the times are written, and nothing else
pub enter_only : (W : Address → Bool) → ((l i : ℕ) → W (Time l i) ≡ true) → (i now : ℕ) → Only W (enter_time i now)
unfolding enter_time
enter_only W h i now = met (h 0 i) then λ _. (met (h 1 _) then tt) then λ _. met (h 2 _) then tt

abbrev is_time : Address → Bool
is_time (Head j) = false
is_time (Time l i) = true
is_time (Dir t) = false
is_time (Field n j) = false
is_time (Bits n w) = false
is_time (Slot n k i) = false

pub enter_keeps : (i now : ℕ) (f : Memory) (a : Address) → is_time a ≡ false → (run_on (enter_time i now) f).1 a ≡ f a
enter_keeps i now f a e = framed is_time (enter_time i now) f (enter_only is_time (λ l i. refl) i now) a e

-- so all seconds and links of blocks stay
enter_view : (child right i now : ℕ) (f : Memory) → view_of child right (run_on (enter_time i now) f).1 ≡ view_of child right f
enter_view child right i now f =
    let same : (n j : ℕ) → (run_on (enter_time i now) f).1 (Field n j) ≡ f (Field n j) = λ n j. enter_keeps i now f (Field n j) refl in
    λ k. record {
      opened = λ n. same n opened_word k;
      closed = with_first OPEN (λ n. same n closed_word k);
      up = λ n. same n up_word k;
      left = λ n. same n left_word k;
      child = with_first child (λ n. same n child_word k);
      right = with_first right (λ n. same n right_word k);
    }

pub open_effect : (c : Cursor) (f : Memory) (now : ℕ) → let z = run_on (open_block c now) f in Opened (view c f) (view z.0 z.1) c.opened now
unfolding open_block
open_effect c f now =
    let N = c.opened in
    let g = (run_on (enter_time N now) f).1 in
    let some : 1 ≤ N + 1 = omega arith in
    subst (λ (v : BlockView). Opened v (view (run_on (open_block c now) f).0 (run_on (open_block c now) f).1) N now)
    (enter_view c.child c.right N now f)
    (cond_all (λ (z : Cursor × Memory). Opened (view c g) (view z.0 z.1) N now) (eqb N 0)
    (λ e.
    let none = eqb-true N 0 e in
    record {
      opened = put_new (λ n. g (Field n opened_word)) (N + 1) now;
      closed = put_later_new OPEN (λ n. g (Field n closed_word)) (N + 1) OPEN some;
      up = put_new (λ n. g (Field n up_word)) (N + 1) N;
      left = put_is (λ n. g (Field n left_word)) (N + 1) 0;
      child = put_later c.child (λ n. g (Field n child_word)) (N + 1) 0 some;
      right = rw e;
      rights = λ n l. absurd (omega arith);
    })
    (λ e. record {
      opened = put_new (λ n. g (Field n opened_word)) (N + 1) now;
      closed = put_later_new OPEN (λ n. g (Field n closed_word)) (N + 1) OPEN some;
      up = put_new (λ n. g (Field n up_word)) (N + 1) N;
      left = put_is (λ n. g (Field n left_word)) (N + 1) 0;
      child = put_later c.child (λ n. g (Field n child_word)) (N + 1) 0 some;
      right = simp (e, eqb_same);
      rights = λ n l. simp (ne_eqb N n (omega arith), ne_eqb (N + 1) n (omega arith));
    }))

-- ---- records, directory and bits
abbrev pub records_of : Memory → Records
records_of f n k = record { tag = f (Slot n k tag_word); payload = payload_at f n k; from = f (Slot n k from_word); to = f (Slot n k to_word) }

abbrev pub directory_of : Memory → ℕ → ℕ
directory_of f tag = f (Dir tag)

abbrev pub marks_of : Memory → Marks
marks_of f n w = f (Bits n w)

-- ---- a record ends
pub end_records : (n k now : ℕ) (f : Memory) → PutAt (records_of f) (records_of (run_on (end_record n k now) f).1) n k (ended_at now (records_of f n k))
unfolding end_record
end_records n k now f = record { here = simp eqb_same; other = λ m j d. simp (apart_false n k m j d) }

pub end_marks : (n k now : ℕ) (f : Memory) → PutBit (marks_of f) (marks_of (run_on (end_record n k now) f).1) n k 0
unfolding end_record
end_marks n k now f = bit_out (marks_of f) n k

-- ---- a record is placed
module _ (s : Settings) (c : Cursor) (now tag : ℕ) (p : Payload) (f : Memory) where
  pub put_records : PutAt (records_of f) (records_of (run_on (put_record s c now tag p) f).1) c.opened c.fill
      (record { tag = tag; payload = p; from = now; to = OPEN })
  unfolding put_record
  put_records = record { here = simp eqb_same; other = λ m j d. simp (apart_false c.opened c.fill m j d) }

  pub put_directory : Put (directory_of f) (directory_of (run_on (put_record s c now tag p) f).1) tag (place_of s c.opened c.fill)
  unfolding put_record
  put_directory = put_is (directory_of f) tag (place_of s c.opened c.fill)

  pub put_marks : PutBit (marks_of f) (marks_of (run_on (put_record s c now tag p) f).1) c.opened c.fill 1
  unfolding put_record
  put_marks = bit_on (marks_of f) c.opened c.fill

-- ---- a block opens
module _ (c : Cursor) (now : ℕ) (f : Memory) where
  open_slot : (m k i : ℕ) → (run_on (open_block c now) f).1 (Slot m k i) ≡ cond (eqb (c.opened + 1) m) 0 (f (Slot m k i))
  unfolding open_block
  open_slot m k i =
      let e = ap (λ (x : ℕ). cond (eqb (c.opened + 1) m) 0 x) (enter_keeps c.opened now f (Slot m k i) refl) in
      cond_all (λ (z : Cursor × Memory). z.1 (Slot m k i) ≡ cond (eqb (c.opened + 1) m) 0 (f (Slot m k i))) (eqb c.opened 0) (λ t. e) (λ t. e)

  open_bits : (m w : ℕ) → (run_on (open_block c now) f).1 (Bits m w) ≡ cond (eqb (c.opened + 1) m) 0 (f (Bits m w))
  unfolding open_block
  open_bits m w =
      let e = ap (λ (x : ℕ). cond (eqb (c.opened + 1) m) 0 x) (enter_keeps c.opened now f (Bits m w) refl) in
      cond_all (λ (z : Cursor × Memory). z.1 (Bits m w) ≡ cond (eqb (c.opened + 1) m) 0 (f (Bits m w))) (eqb c.opened 0) (λ t. e) (λ t. e)

  pub open_directory : (tag : ℕ) → directory_of (run_on (open_block c now) f).1 tag ≡ directory_of f tag
  unfolding open_block
  open_directory tag =
      let e = enter_keeps c.opened now f (Dir tag) refl in
      cond_all (λ (z : Cursor × Memory). z.1 (Dir tag) ≡ f (Dir tag)) (eqb c.opened 0) (λ t. e) (λ t. e)

  pub open_marks_here : (w : ℕ) → marks_of (run_on (open_block c now) f).1 (c.opened + 1) w ≡ 0
  open_marks_here w = open_bits (c.opened + 1) w ∙ simp eqb_same

  pub open_marks_other : (m w : ℕ) → m ≢ c.opened + 1 → marks_of (run_on (open_block c now) f).1 m w ≡ marks_of f m w
  open_marks_other m w d = open_bits m w ∙ simp (ne_eqb (c.opened + 1) m (λ z. d (sym z)))

  pub open_records : Emptied (records_of f) (records_of (run_on (open_block c now) f).1) (c.opened + 1)
  open_records = record {
    here = λ k. open_slot (c.opened + 1) k to_word ∙ simp eqb_same;
    other = λ m k d. λ i. record {
      tag = word m k tag_word d i;
      payload = payload_same (λ j h. word m k j d) i;
      from = word m k from_word d i;
      to = word m k to_word d i;
    };
  }
    where
      word : (m k j : ℕ) → m ≢ c.opened + 1 → (run_on (open_block c now) f).1 (Slot m k j) ≡ f (Slot m k j)
      word m k j d = open_slot m k j ∙ simp (ne_eqb (c.opened + 1) m (λ z. d (sym z)))
