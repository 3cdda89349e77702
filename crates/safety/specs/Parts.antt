-- The parts of a change go well where their blocks, slots and tags are the layout's, and what each leaves: a record ended (Ended), one placed in the
-- acceptor (RecordPut), a block out of the row of open blocks (Unlinked), a new block (Grown). Of the words only up, right, bits and tags matter here.
use Rattle.std.specs.Prelude.{◌≡◌, ◌≢◌, cond, List, ℕ, ◌+◌, ◌/◌, ◌≤◌, ◌<◌, eqb}
use Rattle.std.proofs.Math.Path.{refl, ap}
use Rattle.std.proofs.Common.{◌∙◌}
use native.Mathlib.Omega.{arith}
use Rattle.std.proofs.Math.Dec.{lit≤}
use borrow.Author.Tests.{eqb-true, eqb-false, ne_eqb}
use Rattle.base.specs.Branch.{eqb_same}
use Rattle.base.specs.Bits.{without_bit}
use Rattle.layout.specs.declared.settings.Settings.{Settings}
use Rattle.layout.specs.declared.head.Cursor.{Cursor}
use Rattle.layout.specs.declared.standing.Standing.{Standing}
use Rattle.layout.specs.declared.payload.Payload.{Payload}
use Rattle.layout.specs.declared.address.Address.TheVariants.{Time, Field, Bits, Slot}
use Rattle.layout.specs.Sizes.{level_len}
use Rattle.layout.specs.Fields.{up_word, right_word, tag_word}
use Rattle.layout.specs.Settings.{Within}
use Rattle.layout.specs.Address.{Numbered}
use Rattle.layout.specs.Memory.{Memory}
use Rattle.layout.specs.Program.{Prog, bind, set! }
use Rattle.layout.specs.Payload.{payload_at}
use Rattle.layout.specs.Standing.{slots, raised, lowered, block_bits}
use Rattle.calls.specs.Placing.{enter_time, open_block, unlink, end_record, standing, put_record, move_record}
use Rattle.safety.specs.Goes.{Goes, goes_get, goes_read, goes_write, goes_set, goes_wipe, goes_ret, goes_on, goes_when, goes_so}
use Rattle.safety.specs.Sound.{bit_raised, bit_lowered, bit_elsewhere, and_none, Movable}

-- ---- a record ends
pub record Ended (f : Memory) (n k : ℕ) (g : Memory) : Type 0 where
  pub tags : (m j : ℕ) → g (Slot m j tag_word) ≡ f (Slot m j tag_word)
  pub fields : (m j : ℕ) → g (Field m j) ≡ f (Field m j)
  pub here : block_bits g n ≡ lowered (block_bits f n) k
  pub elsewhere : (m : ℕ) → m ≢ n → block_bits g m ≡ block_bits f m

-- ---- a record with this tag goes to the acceptor's next slot
pub record RecordPut (f : Memory) (c : Cursor) (tag : ℕ) (d : Cursor) (g : Memory) : Type 0 where
  pub opened : d.opened ≡ c.opened
  pub fill : d.fill ≡ c.fill + 1
  pub here : g (Slot c.opened c.fill tag_word) ≡ tag
  pub slots : (k : ℕ) → k ≢ c.fill → g (Slot c.opened k tag_word) ≡ f (Slot c.opened k tag_word)
  pub tags : (n k : ℕ) → n ≢ c.opened → g (Slot n k tag_word) ≡ f (Slot n k tag_word)
  pub ups : (n : ℕ) → g (Field n up_word) ≡ f (Field n up_word)
  pub bits : block_bits g c.opened ≡ raised (block_bits f c.opened) c.fill

-- ---- a block leaves the row: its right neighbour's up becomes its up
pub record Unlinked (f : Memory) (c : Cursor) (x : ℕ) (d : Cursor) (g : Memory) : Type 0 where
  pub opened : d.opened ≡ c.opened
  pub fill : d.fill ≡ c.fill
  pub tags : (n k : ℕ) → g (Slot n k tag_word) ≡ f (Slot n k tag_word)
  pub bits : (n : ℕ) → block_bits g n ≡ block_bits f n
  pub ups : (n : ℕ) → g (Field n up_word) ≡ cond (eqb (f (Field x right_word)) n) (f (Field x up_word)) (f (Field n up_word))

-- ---- block N + 1 opens, empty, right of block N
pub record Grown (f : Memory) (c d : Cursor) (g : Memory) : Type 0 where
  pub opened : d.opened ≡ c.opened + 1
  pub fill : d.fill ≡ 0
  pub tags : (n k : ℕ) → n ≢ c.opened + 1 → g (Slot n k tag_word) ≡ f (Slot n k tag_word)
  pub bits : (n : ℕ) → n ≢ c.opened + 1 → block_bits g n ≡ block_bits f n
  pub ups : (n : ℕ) → n ≢ c.opened + 1 → g (Field n up_word) ≡ f (Field n up_word)
  pub right : 1 ≤ c.opened → g (Field c.opened right_word) ≡ c.opened + 1

-- the times are written, and no word of a block
record BlocksKept (f g : Memory) : Type 0 where
  fields : (n j : ℕ) → g (Field n j) ≡ f (Field n j)
  bits : (n w : ℕ) → g (Bits n w) ≡ f (Bits n w)
  tags : (n k : ℕ) → g (Slot n k tag_word) ≡ f (Slot n k tag_word)

module _ (s : Settings) (z : Within s) where
  pub end_goes : (n k now : ℕ) (f : Memory) → Numbered s n → k < s.block → Goes s (end_record n k now) f (λ x g. Ended f n k g)
  unfolding end_record
  end_goes n k now f nn slot =
      let word : k / 32 < 2 = omega (arith, z.most) in
      goes_set (nn, slot, lit≤ tt) (goes_get (nn, word) (record {
        safe = ((nn, word), tt);
        leaves = record {
          tags = λ m j. refl;
          fields = λ m j. refl;
          here = bit_lowered f n k (omega (arith, z.most));
          elsewhere = λ m d. bit_elsewhere without_bit f n k m d;
        };
      }))

  pub put_goes : (c : Cursor) (f : Memory) (now tag : ℕ) (p : Payload) → Numbered s c.opened → c.fill < s.block → tag < s.tags
      → Goes s (put_record s c now tag p) f (RecordPut f c tag)
  unfolding put_record
  put_goes c f now tag p nn room known =
      let word : c.fill / 32 < 2 = omega (arith, z.most) in
      goes_set (nn, room, lit≤ tt) (goes_write nn room (goes_set (nn, room, lit≤ tt) (goes_set (nn, room, lit≤ tt)
      (goes_get (nn, word) (goes_set (nn, word) (goes_set known (goes_ret (record {
        opened = refl;
        fill = refl;
        here = simp eqb_same;
        slots = λ k d. simp (ne_eqb c.fill k (λ e. d (cc)));
        tags = λ n k d. simp (ne_eqb c.opened n (λ e. d (cc)), and_none);
        ups = λ n. refl;
        bits = bit_raised f c.opened c.fill (omega (arith, z.most));
      }))))))))

  -- a record of an older block is placed again
  pub move_goes : (c : Cursor) (f : Memory) (x now k : ℕ) → Numbered s x → Movable s f x k → x ≢ c.opened → Numbered s c.opened → c.fill < s.block
      → Goes s (move_record s x now k c) f (RecordPut f c (f (Slot x k tag_word)))
  unfolding move_record
  move_goes c f x now k nx m apart nn room =
      goes_get (nx, m.slot, lit≤ tt) (goes_read nx m.slot (goes_on (end_goes x k now f nx m.slot) (λ u g e.
      goes_so (put_goes c g now (f (Slot x k tag_word)) (payload_at f x k) nn room m.tag) (λ d g' p. record {
        opened = p.opened;
        fill = p.fill;
        here = p.here;
        slots = λ j u. p.slots j u ∙ e.tags c.opened j;
        tags = λ n j u. p.tags n j u ∙ e.tags n j;
        ups = λ n. p.ups n ∙ e.fields n up_word;
        bits = p.bits ∙ ap (λ (b : Standing). raised b c.fill) (e.elsewhere c.opened (λ w. apart (cc)));
      }))))

  -- the standing slots of a block are read, then the rest
  pub goes_standing : {A : Type 0} {k : List ℕ → Prog A} {f : Memory} {R : A → Memory → Type 0} (x : ℕ) → Numbered s x → Goes s (k (slots (block_bits f x))) f R
      → Goes s (bind (standing x) k) f R
  unfolding standing
  goes_standing x nx g = record { safe = ((((nx, lit≤ tt), tt), (((nx, lit≤ tt), tt), tt)), g.safe); leaves = g.leaves }

  pub unlink_goes : (c : Cursor) (f : Memory) (x now : ℕ) → Numbered s x → f (Field x up_word) < x → Numbered s (f (Field x right_word))
      → Goes s (unlink c x now) f (Unlinked f c x)
  unfolding unlink
  unlink_goes c f x now nx below nr =
      let up = f (Field x up_word) in
      goes_get (nx, lit≤ tt) (goes_get (nx, lit≤ tt) (goes_set (nx, lit≤ tt) (goes_set (nr, lit≤ tt) (goes_when
      (λ t. goes_set (nx, lit≤ tt) (goes_ret (record { opened = refl; fill = refl; tags = λ n k. refl; bits = λ n. refl; ups = λ n. refl })))
      (λ t.
      let nu : Numbered s up = record { low = omega (arith, eqb-false up 0 t); high = omega (arith, nx.high) } in
      goes_get (nu, lit≤ tt) (goes_set (nu, lit≤ tt) (goes_set (nx, lit≤ tt) (goes_set (nu, lit≤ tt)
      (goes_ret (record { opened = refl; fill = refl; tags = λ n k. refl; bits = λ n. refl; ups = λ n. refl }))))))))))

  time_goes : {f : Memory} (l i now : ℕ) (g : Memory) → l < 3 → i < level_len l → BlocksKept f g → Goes s (set! (Time l i) now) g (λ x h. BlocksKept f h)
  time_goes l i now g a b e = record { safe = ((a, b), tt); leaves = record { fields = e.fields; bits = e.bits; tags = e.tags } }

  enter_goes : (i now : ℕ) (f : Memory) → i < 4096 → Goes s (enter_time i now) f (λ x g. BlocksKept f g)
  unfolding enter_time
  enter_goes i now f a =
      let first : BlocksKept f f = record { fields = λ n j. refl; bits = λ n w. refl; tags = λ n k. refl } in
      let b : i / 16 < 256 = omega arith in
      let d : i / 256 < 16 = omega arith in
      goes_on (time_goes 0 i now f (lit≤ tt) a first) (λ x g e.
      goes_on (goes_when (λ t. time_goes 1 (i / 16) now g (lit≤ tt) b e) (λ t. goes_ret e)) (λ y h e'.
      goes_when (λ t. time_goes 2 (i / 256) now h (lit≤ tt) d e') (λ t. goes_ret e')))

  pub open_goes : (c : Cursor) (f : Memory) (now : ℕ) → c.opened < s.blocks → Goes s (open_block c now) f (Grown f c)
  unfolding open_block
  open_goes c f now left =
      let N = c.opened in
      let new : Numbered s (N + 1) = record { low = omega arith; high = omega arith } in
      goes_on (enter_goes N now f (omega (arith, z.blocks))) (λ x g e.
      goes_wipe new (goes_set (new, lit≤ tt) (goes_set (new, lit≤ tt) (goes_set (new, lit≤ tt) (goes_when
      (λ t. goes_ret (record {
        opened = refl;
        fill = refl;
        tags = λ n k d. simp (ne_eqb (N + 1) n (λ w. d (cc))) (e.tags n k);
        bits = λ n d. simp (ne_eqb (N + 1) n (λ w. d (cc)), e.bits);
        ups = λ n d. simp (ne_eqb (N + 1) n (λ w. d (cc))) (e.fields n up_word);
        right = λ a. absurd (omega (arith, eqb-true N 0 t));
      }))
      (λ t.
      let last : Numbered s N = record { low = omega (arith, eqb-false N 0 t); high = omega arith } in
      goes_set (last, lit≤ tt) (goes_ret (record {
        opened = refl;
        fill = refl;
        tags = λ n k d. simp (ne_eqb (N + 1) n (λ w. d (cc))) (e.tags n k);
        bits = λ n d. simp (ne_eqb (N + 1) n (λ w. d (cc)), e.bits);
        ups = λ n d. simp (ne_eqb (N + 1) n (λ w. d (cc))) (e.fields n up_word);
        right = λ a. simp eqb_same;
      }))))))))
