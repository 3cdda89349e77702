-- The records of the blocks, by block and slot: which are placed and what holds of these (Kept), and what placing, ending, closing a block
-- and opening one do to them. The directory: the word of a tag is the place of its record that stands, and 0 if there is none (Found).
use Rattle.std.specs.Prelude.{◌≡◌, ◌≢◌, ℕ, ◌+◌, ◌≤◌, ◌<◌}
use Rattle.std.proofs.Common.{sym, ap, ◌∙◌, arith}
use Rattle.base.specs.Branch.{is?}
use Rattle.layout.specs.Sizes.{OPEN}
use Rattle.layout.specs.declared.settings.Settings.{Settings}
use Rattle.layout.specs.declared.payload.Payload.{Payload}
use Rattle.calls.specs.Placing.{place_of}
use Rattle.theory.specs.Row.{Unlinked, Opened, Put, BlockView}

pub record Record : Type 0 where
  pub tag : ℕ
  pub payload : Payload
  pub from : ℕ
  pub to : ℕ

abbrev pub Records : Type 0
Records = ℕ → ℕ → Record

-- a record stands from `from` on until before `to`
pub record Stands (t : ℕ) (r : Record) : Type 0 where
  pub begun : r.from ≤ t
  pub lasts : t < r.to

-- the record ended at a second, and the one that goes on with it from there
abbrev pub ended_at : ℕ → Record → Record
ended_at now r = record { tag = r.tag; payload = r.payload; from = r.from; to = now }

abbrev pub begun_at : ℕ → Record → Record
begun_at now r = record { tag = r.tag; payload = r.payload; from = now; to = OPEN }

-- ---- one slot
-- two places are not the same slot
abbrev pub Apart : ℕ → ℕ → ℕ → ℕ → Type 0
Apart n k m j = (m ≡ n) × (j ≡ k) → ⊥

-- slot j of block m is slot k of block n, or another
pub place? : {P : Type 0} (n k m j : ℕ) → (m ≡ n → j ≡ k → P) → (Apart n k m j → P) → P
place? n k m j f g = is? m n (λ x. is? j k (λ y. f x y) (λ y. g (λ z. y z.1))) (λ x. g (λ z. x z.0))

-- g is f but for r in slot k of block n
pub record PutAt (f g : Records) (n k : ℕ) (r : Record) : Type 0 where
  pub here : g n k ≡ r
  pub other : (m j : ℕ) → Apart n k m j → g m j ≡ f m j

-- block n has no record, and all else stays
pub record Emptied (f g : Records) (n : ℕ) : Type 0 where
  pub here : (k : ℕ) → (g n k).to ≡ 0
  pub other : (m k : ℕ) → m ≢ n → g m k ≡ f m k

-- ---- the records that are placed: b in each block but the acceptor, block N, which has `fill`
pub record Placed (N fill b n k : ℕ) : Type 0 where
  pub low : 1 ≤ n
  pub high : n ≤ N
  pub slot : k < b
  pub last : n ≡ N → k < fill

-- a record of block n: it begins in its block's time, and one that has ended did so by its block's closing
pub record Good (v : BlockView) (tags clock n : ℕ) (r : Record) : Type 0 where
  pub known : r.tag < tags
  pub early : v.opened n ≤ r.from
  pub begun : r.from ≤ clock
  pub order : r.from ≤ r.to
  pub ended : r.to ≢ OPEN → (r.to ≤ clock) × (r.to ≤ v.closed n)

-- every placed record is good, and a slot that is not placed was never used
pub record Kept (f : Records) (v : BlockView) (b tags N fill clock : ℕ) : Type 0 where
  pub good : (n k : ℕ) → Placed N fill b n k → Good v tags clock n (f n k)
  pub used : (n k : ℕ) → 0 < (f n k).to → Placed N fill b n k

-- time passes
pub good_later : {v : BlockView} {tags clock now n : ℕ} {r : Record} → Good v tags clock n r → clock ≤ now → Good v tags now n r
good_later g l = record {
  known = g.known;
  early = g.early;
  begun = omega arith;
  order = g.order;
  ended = λ d. let e = g.ended d in (omega arith, e.1);
}

pub kept_later : {f : Records} {v : BlockView} {b tags N fill clock now : ℕ} → Kept f v b tags N fill clock → clock ≤ now → Kept f v b tags N fill now
kept_later i l = record { good = λ n k p. good_later (i.good n k p) l; used = i.used }

-- a record is placed in the acceptor's next slot
pub kept_put : {f g : Records} {v : BlockView} {b tags N fill clock now : ℕ} {r : Record} → Kept f v b tags N fill clock → PutAt f g N fill r → clock ≤ now
    → r.from ≡ now → r.to ≡ OPEN → r.tag < tags → v.opened N ≤ clock → 1 ≤ N → fill < b → now < OPEN → Kept g v b tags N (fill + 1) now
kept_put {N = N} {fill} i e later from to known opened some room ends = record {
  good = λ n k p. place? N fill n k
      (λ x y. rw (x, y, e.here)
      (record { known = known; early = omega arith; begun = omega arith; order = omega arith; ended = λ z. absurd (z to) }))
      (λ d.
      let before : n ≡ N → k < fill = λ z. let y : k ≢ fill = λ w. d (z, w) in omega (arith, p.last z) in
      rw (e.other n k d) (good_later (i.good n k (record { low = p.low; high = p.high; slot = p.slot; last = before })) later));
  used = λ n k p. place? N fill n k
      (λ x y. rw (x, y) (record { low = some; high = omega arith; slot = room; last = λ z. omega arith }))
      (λ d.
      let o = i.used n k (rw (e.other n k d) at p) in
      record { low = o.low; high = o.high; slot = o.slot; last = λ z. omega (arith, o.last z) });
}

-- a record that stands ends, not after its block's closing
pub kept_end : {f g : Records} {v : BlockView} {b tags N fill clock n k now : ℕ} → Kept f v b tags N fill clock → PutAt f g n k (ended_at now (f n k))
    → clock ≤ now → now ≤ v.closed n → (f n k).to ≡ OPEN → now < OPEN → Kept g v b tags N fill now
kept_end {f} {v = v} {tags = tags} {clock = clock} {n} {k} i e later closes stands ends = record {
  good = λ m j p.
      let o = i.good m j p in
      place? n k m j
      (λ x y.
      let h : Good v tags clock n (f n k) = rw (x, y) at o in
      rw (x, y, e.here) (record {
        known = h.known;
        early = h.early;
        begun = omega (arith, h.begun);
        order = omega (arith, h.begun);
        ended = λ z. (omega arith, closes);
      }))
      (λ d. rw (e.other m j d) (good_later o later));
  used = λ m j p. place? n k m j
      (λ x y. rw (x, y) (i.used n k (omega arith)))
      (λ d. i.used m j (rw (e.other m j d) at p));
}

-- a block leaves the row: its records ended before
pub kept_unlink : {f : Records} {v w : BlockView} {b tags N fill clock x now : ℕ} → Kept f v b tags N fill clock → Unlinked v w x now → clock ≤ now
    → Kept f w b tags N fill now
kept_unlink {w = w} {x = x} {now} i e later = record {
  used = i.used;
  good = λ n k p.
      let o = i.good n k p in
      record {
        known = o.known;
        early = omega (arith, e.opened n);
        begun = omega arith;
        order = o.order;
        ended = λ d.
            let h = o.ended d in (
              omega arith,
              is? n x
                  (λ z. let c : w.closed n ≡ now = rw z e.closed.here in omega arith)
                  (λ z. omega (arith, e.closed.other n z)),
            );
      };
}

-- a block opens once the acceptor is full
pub kept_open : {f g : Records} {v w : BlockView} {b tags N fill clock now : ℕ} → Kept f v b tags N fill clock → Opened v w N now → Emptied f g (N + 1)
    → (1 ≤ N → fill ≡ b) → clock ≤ now → Kept g w b tags (N + 1) 0 now
kept_open {g = g} {N = N} i e m full later = record {
  good = λ n k p.
      let d : n ≢ N + 1 = λ z. omega (arith, p.last z) in
      let o = i.good n k (record { low = p.low; high = omega arith; slot = p.slot; last = λ z. omega (arith, full (omega arith)) }) in
      rw (m.other n k d) (record {
        known = o.known;
        early = omega (arith, e.opened.other n d);
        begun = omega arith;
        order = o.order;
        ended = λ z. let h = o.ended z in (omega arith, omega (arith, e.closed.other n d));
      });
  used = λ n k p. is? n (N + 1)
      (λ z. let h : (g n k).to ≡ 0 = rw z (m.here k) in absurd (omega arith))
      (λ d.
      let o = i.used n k (rw (m.other n k d) at p) in
      record { low = o.low; high = omega arith; slot = o.slot; last = λ z. absurd (d z) });
}

-- ---- the directory
pub record Found (s : Settings) (f : Records) (dir : ℕ → ℕ) : Type 0 where
  pub finds : (n k : ℕ) → (f n k).to ≡ OPEN → dir (f n k).tag ≡ place_of s n k
  pub found : (tag : ℕ) → dir tag ≢ 0 → (n : ℕ) × (k : ℕ) × ((f n k).to ≡ OPEN) × ((f n k).tag ≡ tag)

module _ {s : Settings} where
  -- a record begins under a tag that had none
  pub found_put : {f g : Records} {dir dir' : ℕ → ℕ} {n k : ℕ} {r : Record} → Found s f dir → PutAt f g n k r → r.to ≡ OPEN → (f n k).to ≡ 0
      → dir r.tag ≡ 0 → Put dir dir' r.tag (place_of s n k) → Found s g dir'
  found_put {f} {g} {dir} {dir'} {n} {k} {r} i e a unused free d = record {
    finds = λ m j w. place? n k m j
        (λ x y. rw (x, y, e.here) d.here)
        (λ c.
        let q = e.other m j c in
        let h = i.finds m j (rw q at w) in
        rw q (d.other (f m j).tag (λ t. let h' : dir r.tag ≡ place_of s m j = ap dir (sym t) ∙ h in absurd (omega arith)) ∙ h));
    found = λ y w. is? y r.tag
        (λ t. (n, k, rw e.here a, rw e.here (sym t)))
        (λ t.
        let p = i.found y (λ c. w (d.other y t ∙ c)) in
        let q = e.other p.0 p.1 (λ c. let h : (f p.0 p.1).to ≡ 0 = rw (c.0, c.1) unused in absurd (omega (arith, p.2))) in
        (p.0, p.1, rw q p.2, rw q p.3));
  }

  -- a record that stands ends, the only one of its tag
  pub found_end : {f g : Records} {dir dir' : ℕ → ℕ} {n k now : ℕ} → Found s f dir → PutAt f g n k (ended_at now (f n k)) → (f n k).to ≡ OPEN
      → now < OPEN
      → ((m j : ℕ) → (f m j).to ≡ OPEN → (f m j).tag ≡ (f n k).tag → (m ≡ n) × (j ≡ k)) → Put dir dir' (f n k).tag 0 → Found s g dir'
  found_end {f} {n = n} {k} {now} i e a ends once d = record {
    finds = λ m j w.
        let x : (m ≡ n) × (j ≡ k) → ⊥ = λ z. let y : now ≡ OPEN = rw (z.0, z.1, e.here) at w in omega arith in
        let q = e.other m j x in
        rw q (d.other (f m j).tag (λ t. x (once m j (rw q at w) t)) ∙ i.finds m j (rw q at w));
    found = λ y w.
        let t : y ≢ (f n k).tag = λ t. w (rw t d.here) in
        let p = i.found y (λ z. w (d.other y t ∙ z)) in
        let q = e.other p.0 p.1 (λ z. t (sym (rw (z.0, z.1) at p.3))) in
        (p.0, p.1, rw q p.2, rw q p.3);
  }

  -- a block that never had a record may be emptied
  pub found_open : {f g : Records} {dir : ℕ → ℕ} {n : ℕ} → Found s f dir → Emptied f g n → ((k : ℕ) → (f n k).to ≡ 0) → Found s g dir
  found_open {f} {g} i m z = record {
    finds = λ x k w. let e = m.other x k (λ c. let y : (g x k).to ≡ 0 = rw c (m.here k) in absurd (omega arith)) in rw e (i.finds x k (rw e at w));
    found = λ tag w.
        let p = i.found tag w in
        let e = m.other p.0 p.1 (λ c. let y : (f p.0 p.1).to ≡ 0 = rw c (z p.1) in absurd (omega (arith, p.2))) in
        (p.0, p.1, rw e p.2, rw e p.3);
  }
