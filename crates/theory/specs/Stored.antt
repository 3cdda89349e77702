-- A change writes no word of the head but its cursor's: the parts write none (only-..), and the end stores the cursor, so the settings, the mark and the six
-- zeros stay (HeadMoved). Words that hold a head and a memory (Stored): what a program does to the memory it does to the words, and the head that it hands
-- back is then theirs.
use Rattle.std.specs.Prelude.{◌≡◌, refl, Bool, true, false, cond, List, [], ◌∷◌, ◌⊎◌, ℕ, ◌+◌, ◌<◌, eqb, get_or}
use Rattle.std.proofs.Common.{◌∙◌, ap, sym, inl, inr, arith, lit≤, ne_eqb, eq-eqb, le-ltb}
use Rattle.layout.specs.declared.settings.Settings.{Settings}
use Rattle.layout.specs.declared.head.Cursor.{Cursor}
use Rattle.layout.specs.declared.address.Address.{Address}
use Rattle.layout.specs.declared.address.Address.TheVariants.{Head as HeadWord, Time, Dir, Field, Bits, Slot}
use Rattle.layout.specs.Fields.{head_opened, head_clock, head_fill, head_child, head_right, head_spare}
use Rattle.layout.specs.Address.{of_block, Valid}
use Rattle.layout.specs.Memory.{Memory}
use Rattle.layout.specs.Program.{Prog, ret, bind, each, run_on, run}
use Rattle.layout.specs.Cursor.{store_cursor}
use Rattle.layout.specs.declared.head.Head.{Head}
use Rattle.layout.specs.Sizes.{OPEN, head_len}
use Rattle.layout.specs.Head.{head_of, bad_head, spare_zero}
use Rattle.layout.specs.HeadLaws.{SoundHead, HeadRead, bad-head, rule_fill}
use Rattle.layout.specs.SettingsLaws.{within_limits}
use Rattle.layout.specs.ProgramLaws.{Safe, Agree, refine, run_length}
use Rattle.layout.specs.OnWords.{over}
use Rattle.layout.specs.OverLaws.{over_may, over_head}
use Rattle.layout.specs.declared.payload.Payload.{Payload}
use Rattle.layout.specs.Payload.{new_payload, get_payload, set_payload}
use Rattle.calls.specs.Placing.{open_block, unlink, end_record, standing, put_record, move_record, close_full, judge_full, roll, make_room, place, replace, close, judge, clear_tag, finish, set_program, clear_program, update_program, advance_program}
use Rattle.theory.specs.RunLaws.{Only, framed, met, ◌then◌}
use Rattle.theory.specs.Effects.{enter_only}

-- every word but the head's
abbrev pub headless : Address → Bool
headless (HeadWord j) = false
headless (Time l i) = true
headless (Dir t) = true
headless (Field n j) = true
headless (Bits n w) = true
headless (Slot n k i) = true

outside : (n : ℕ) (a : Address) → headless a ≡ false → of_block n a ≡ false
outside n (HeadWord j) e = refl
outside n (Time l i) e = refl
outside n (Dir t) e = refl
outside n (Field m j) e = cc
outside n (Bits m w) e = cc
outside n (Slot m k i) e = cc

only_each : {A : Type 0} (body : ℕ → A → Prog A) → ((k : ℕ) (x : A) → Only headless (body k x)) → (l : List ℕ) (x : A) → Only headless (each body l x)
unfolding each
only_each body h [] x = tt
only_each body h (k ∷ l) x = (h k x, λ y. only_each body h l y)

only_open : (c : Cursor) (now : ℕ) → Only headless (open_block c now)
unfolding open_block
only_open c now =
    enter_only headless (λ l i. refl) c.opened now then λ _. met (outside (c.opened + 1)) then λ _. met refl then λ _. met refl then λ _.
    met refl then λ _. tt then met refl then λ _. tt

only_unlink : (c : Cursor) (x now : ℕ) → Only headless (unlink c x now)
unfolding unlink
only_unlink c x now =
    (λ v. tt) then λ _. (λ v. tt) then λ _. met refl then λ _. met refl then λ _.
    (met refl then λ _. tt) then (λ v. tt) then λ _. met refl then λ _. met refl then λ _. met refl then λ _. tt

only_end : (n k now : ℕ) → Only headless (end_record n k now)
unfolding end_record
only_end n k now = ((refl, tt), λ _. ((λ v. tt), λ _. (refl, tt)))

only_standing : (n : ℕ) → Only headless (standing n)
unfolding standing
only_standing n = ((λ v. tt), λ _. ((λ v. tt), λ _. tt))

only_read : (n k : ℕ) → Only headless (get_payload n k)
only_read n k = ((λ v. tt), λ _. ((λ v. tt), λ _. tt))

only_write : (n k : ℕ) (p : Payload) → Only headless (set_payload n k p)
only_write n k p = ((refl, tt), λ _. (refl, tt))

module _ (s : Settings) where
  only_put : (c : Cursor) (now tag : ℕ) (p : Payload) → Only headless (put_record s c now tag p)
  unfolding put_record
  only_put c now tag p =
      ((refl, tt), λ _. (only_write c.opened c.fill p, λ _. ((refl, tt), λ _. ((refl, tt), λ _. ((λ v. tt), λ _. ((refl, tt), λ _. ((refl, tt), λ _. tt)))))))

  only_move : (x now k : ℕ) (c : Cursor) → Only headless (move_record s x now k c)
  unfolding move_record
  only_move x now k c = ((λ v. tt), λ tag. (only_read x k, λ p. (only_end x k now, λ _. only_put c now tag p)))

  only_judge_full : (c : Cursor) (x now : ℕ) → Only headless (judge_full s c x now)
  unfolding judge_full close_full
  only_judge_full c x now = (only_standing x, λ l. ((only_unlink c x now, λ d. only_each (move_record s x now) (only_move x now) l d), tt))

  only_room : (c : Cursor) (now : ℕ) → Only headless (make_room s c now)
  unfolding make_room roll
  only_room c now = ((only_open c now, λ d. (tt, only_judge_full d c.opened now)), tt)

  only_place : (c : Cursor) (now tag reading : ℕ) → Only headless (place s c now tag reading)
  unfolding place
  only_place c now tag reading = (only_room c now, λ d. only_put d now tag (new_payload reading now))

  only_judge : (c : Cursor) (x now : ℕ) → Only headless (judge s c x now)
  unfolding judge close replace
  only_judge c x now =
      (only_standing x, λ l. ((only_unlink c x now, λ d. only_each (replace s x now) (λ k e. (only_room e now, λ g. only_move x now k g)) l d), tt))

  only_clear : (c : Cursor) (now tag : ℕ) → Only headless (clear_tag s c now tag)
  unfolding clear_tag
  only_clear c now tag = ((λ v. tt), λ p. (only_end _ _ now, λ _. ((refl, tt), λ _. (tt, only_judge c _ now))))

-- ---- what a change leaves of the head: the cursor that it hands back, and the other words as they were
abbrev with_cursor : Cursor → (ℕ → ℕ) → ℕ → ℕ
with_cursor c w j =
    cond (eqb head_right j) c.right (cond (eqb head_child j) c.child (cond (eqb head_fill j) c.fill
    (cond (eqb head_clock j) c.clock (cond (eqb head_opened j) c.opened (w j)))))

pub record HeadMoved (c : Cursor) (f g : Memory) : Type 0 where
  pub words : (j : ℕ) → g (HeadWord j) ≡ with_cursor c (λ k. f (HeadWord k)) j

other_word : (c : Cursor) (w : ℕ → ℕ) (j : ℕ) → (j < head_opened) ⊎ (head_right < j) → with_cursor c w j ≡ w j
other_word c w j (inl a) = simp (ne_eqb 5 j (omega arith), ne_eqb 6 j (omega arith), ne_eqb 7 j (omega arith), ne_eqb 8 j (omega arith), ne_eqb 9 j (omega arith))
other_word c w j (inr a) = simp (ne_eqb 5 j (omega arith), ne_eqb 6 j (omega arith), ne_eqb 7 j (omega arith), ne_eqb 8 j (omega arith), ne_eqb 9 j (omega arith))

-- the cursor is stored last, behind parts that write no word of the head
stored : (s : Settings) (p : Prog Cursor) → Only headless p → (now : ℕ) (f : Memory)
    → let z = run_on (bind p (λ d. finish s now d)) f in HeadMoved z.0 f z.1
unfolding finish store_cursor
stored s p o now f =
    let z = run_on (bind p (λ d. finish s now d)) f in
    record { words = λ j. ap (λ (v : ℕ). with_cursor z.0 (λ k. v) j) (framed headless p f o (HeadWord j) refl) }

-- parts before it that write no word of the head change nothing of this
moved_after : {c : Cursor} {f g h : Memory} → ((j : ℕ) → g (HeadWord j) ≡ f (HeadWord j)) → HeadMoved c g h → HeadMoved c f h
moved_after {c} e m = record { words = λ j. m.words j ∙ ap (λ (v : ℕ). with_cursor c (λ k. v) j) (e j) }

module _ (s : Settings) (c : Cursor) (now : ℕ) (f : Memory) where
  pub set_head : (tag reading : ℕ) → let z = run_on (set_program s c now tag reading) f in HeadMoved z.0 f z.1
  unfolding set_program
  set_head tag reading = stored s (place s c now tag reading) (only_place s c now tag reading) now f

  pub clear_head : (tag : ℕ) → let z = run_on (clear_program s c now tag) f in HeadMoved z.0 f z.1
  unfolding clear_program
  clear_head tag = stored s (clear_tag s c now tag) (only_clear s c now tag) now f

  pub update_head : (tag reading : ℕ) → let z = run_on (update_program s c now tag reading) f in HeadMoved z.0 f z.1
  unfolding update_program
  update_head tag reading =
      let z = run_on (clear_tag s c now tag) f in
      moved_after (λ j. framed headless (clear_tag s c now tag) f (only_clear s c now tag) (HeadWord j) refl)
      (stored s (place s z.0 now tag reading) (only_place s z.0 now tag reading) now z.1)

  pub advance_head : let z = run_on (advance_program s c now) f in HeadMoved z.0 f z.1
  unfolding advance_program finish store_cursor
  advance_head = stored s (ret c) tt now f

-- ---- words that hold a head and a memory
pub record Stored (ws : List ℕ) (h : Head) (f : Memory) : Type 0 where
  pub read : HeadRead ws h
  pub agree : Agree (over h.settings) ws f

-- a sound head passes refusals 2 and 3
pub head_passes : {ws : List ℕ} {h : Head} → HeadRead ws h → bad_head ws ≡ false
head_passes {ws} {h} r =
    let g = r.sound in
    bad-head ws r.is (eq-eqb _ _ r.marked) (within_limits h.settings g.within) (le-ltb _ _ g.opened) (ne_eqb h.cursor.clock OPEN (λ e. omega arith))
    r.spare (rule_fill h g)

-- the words at an address of the layout
pub stored_at : {ws : List ℕ} {h : Head} {f : Memory} → Stored ws h f → (a : Address) → Valid h.settings a → (over h.settings).read ws a ≡ f a
stored_at {h = h} i a v = i.agree.same.at a (over_may h.settings a v)

-- a word of the head
pub stored_head : {ws : List ℕ} {h : Head} {f : Memory} → Stored ws h f → (j : ℕ) → j < head_len → get_or ws j 0 ≡ f (HeadWord j)
stored_head {ws} {h} i j l = sym (over_head h.settings ws j) ∙ stored_at i (HeadWord j) l

-- the six zeros, and the head with another cursor
spare_same : (ws us : List ℕ) → ((j : ℕ) → j < 6 → get_or us (head_spare + j) 0 ≡ get_or ws (head_spare + j) 0) → spare_zero us ≡ spare_zero ws
spare_same ws us e = rw (e 0 (lit≤ tt), e 1 (lit≤ tt), e 2 (lit≤ tt), e 3 (lit≤ tt), e 4 (lit≤ tt), e 5 (lit≤ tt))

head_moved : (ws us : List ℕ) (c : Cursor) → ((j : ℕ) → j < 5 → get_or us j 0 ≡ get_or ws j 0) → get_or us 5 0 ≡ c.opened → get_or us 6 0 ≡ c.clock
    → get_or us 7 0 ≡ c.fill → get_or us 8 0 ≡ c.child → get_or us 9 0 ≡ c.right → record { settings = (head_of ws).settings; cursor = c } ≡ head_of us
unfolding head_of
head_moved ws us c e e₅ e₆ e₇ e₈ e₉ = rw (e 1 (lit≤ tt), e 2 (lit≤ tt), e 3 (lit≤ tt), e 4 (lit≤ tt), e₅, e₆, e₇, e₈, e₉)

-- what a run of a program leaves
pub record Left (s : Settings) (p : Prog Cursor) (ws : List ℕ) (f : Memory) : Type 0 where
  pub answer : (run (over s) p ws).0 ≡ (run_on p f).0
  pub store : Stored (run (over s) p ws).1 (record { settings = s; cursor = (run_on p f).0 }) (run_on p f).1

-- A program whose addresses are all the layout's, which leaves the head's other words and hands back a sound cursor.
pub stored_run : {ws : List ℕ} {h : Head} {f : Memory} (p : Prog Cursor) → Stored ws h f → Safe (over h.settings) p f
    → HeadMoved (run_on p f).0 f (run_on p f).1 → SoundHead (record { settings = h.settings; cursor = (run_on p f).0 }) → Left h.settings p ws f
stored_run {ws} {h} {f} p i safe moved sound =
    let s = h.settings in
    let r = refine (over s) p ws f safe i.agree in
    let c = (run_on p f).0 in
    let g = (run_on p f).1 in
    let us = (run (over s) p ws).1 in
    let at : (j : ℕ) → j < head_len → get_or us j 0 ≡ g (HeadWord j) = λ j l. sym (over_head s us j) ∙ r.1.same.at (HeadWord j) (over_may s (HeadWord j) l) in
    let kept : (j : ℕ) → j < 5 → get_or us j 0 ≡ get_or ws j 0 = λ j l. at j (omega arith) ∙ moved.words j ∙ other_word c (λ k. f (HeadWord k)) j (inl l) ∙ sym (stored_head i j (omega arith)) in
    record {
      answer = r.0;
      store = record {
        read = record {
          is = ap (λ (x : Head). record { settings = x.settings; cursor = c }) i.read.is
              ∙ head_moved ws us c kept (at 5 (omega arith) ∙ moved.words 5) (at 6 (omega arith) ∙ moved.words 6) (at 7 (omega arith) ∙ moved.words 7)
              (at 8 (omega arith) ∙ moved.words 8) (at 9 (omega arith) ∙ moved.words 9);
          sound = sound;
          long = omega (arith, run_length (over s) p ws, i.read.long);
          marked = kept 0 (omega arith) ∙ i.read.marked;
          spare = spare_same ws us (λ j l. at (head_spare + j) (omega arith) ∙ moved.words (head_spare + j)
              ∙ other_word c (λ k. f (HeadWord k)) (head_spare + j) (inr (omega arith)) ∙ sym (stored_head i (head_spare + j) (omega arith))) ∙ i.read.spare;
        };
        agree = r.1;
      };
    }
