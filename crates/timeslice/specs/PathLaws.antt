-- The path's answers: each way out of the code tells the path as it is defined, and each turn of the loop leaves a shorter path to tell. A path lists no
-- more blocks than its number.
use Rattle.std.specs.Prelude.{◌≡◌, refl, List, [], ◌∷◌, ℕ, zero, suc, ◌+◌, ◌-◌, ◌≤◌, ◌<◌, eqb, leb, length, set, Result, Ok, Err}
use Rattle.std.proofs.Common.{◌∙◌, arith}
use borrow.Author.Tests.{eq-eqb, ne_eqb, le-leb, lt-leb, leb-false}
use Rattle.base.specs.Branch.{cond_all}
use Rattle.layout.specs.Sizes.{OPEN}
use Rattle.layout.specs.Address.{Numbered}
use Rattle.layout.specs.Fields.{closed_word, up_word, left_word, child_word}
use Rattle.layout.specs.Parts.{block_word}
use Rattle.calls.specs.Walk.{Reader, and_then, rows_of, neighbour, visit, path}
use Rattle.calls.specs.LookBack.{reader}
use Rattle.queries.specs.BlockLaws.{word_is}
use Rattle.queries.specs.declared.unsound.Unsound.{Unsound}
use Rattle.timeslice.specs.declared.Counts.{Counts}
use Rattle.timeslice.specs.declared.past.Past.{Past}
use Rattle.timeslice.specs.declared.walk.PathBlock.{PathBlock}
use Rattle.timeslice.specs.Reading.{reader_of}
use Rattle.timeslice.specs.Taken.{Takes}
use Rattle.timeslice.specs.Told.{WalkTold, bad, VisitTold, PathTold, Climbs, on, above, full, up_of, Space, Gap, Reach, Under}
use Rattle.timeslice.specs.ToldLaws.{told_then, told_stop, told_none, told_found, taken_all, taken_many, buffers_same}
use Rattle.timeslice.specs.VisitLaws.{with_fuel, Short, none, few, listed_short, visit_short, short_found}

-- ---- a path from n lists no more than n blocks
pub path_short : (b t : ℕ) (R : Reader) (fuel n : ℕ) → Short 0 (suc n) (path b t R fuel n)
unfolding path
path_short b t R zero n = none
path_short b t R (suc fuel) n =
    let up = block_word (R.block n) up_word in
    cond_all (Short 0 (suc n)) (eqb n 0) (λ e. few {l = []} (omega arith))
    (λ e. cond_all (Short 0 (suc n)) (leb n up) (λ i. none)
    (λ i. listed_short n (rows_of b t (R.block n))
    (visit_short b t R (suc n) up n (neighbour R n) (leb-false n up i)) (path_short b t R fuel up) (omega arith)))

-- ---- the left neighbour
module _ (R : Reader) (n : ℕ) {block : List ℕ} (is : block ≡ R.block n) {closed : ℕ} (c : closed ≡ block_word block closed_word) where
  pub own_left : (closed ≡ OPEN → ⊥) → {left : ℕ} → left ≡ block_word block left_word → left ≡ neighbour R n
  unfolding neighbour
  own_left h e = rw (← is, ← c, ne_eqb closed OPEN h, e)

  module _ (h : closed ≡ OPEN) {up : ℕ} (u : up ≡ block_word block up_word) where
    pub root_child : up ≡ 0 → {root : ℕ} → root ≡ R.root → root ≡ neighbour R n
    unfolding neighbour
    root_child z e = rw (← is, ← c, eq-eqb closed OPEN h, ← u, eq-eqb up 0 z, e)

    pub up_child : (up ≡ 0 → ⊥) → {over : List ℕ} → over ≡ R.block up → {child : ℕ} → child ≡ block_word over child_word → child ≡ neighbour R n
    unfolding neighbour
    up_child z i e = rw (← is, ← c, eq-eqb closed OPEN h, ← u, ne_eqb up 0 z, ← i, e)

-- block 0's last child is the head's
pub root_is : (p : Past) → p.opened.head.cursor.child ≡ (reader_of p).root
unfolding reader
root_is p = rw p.opened.readable.is

module _ (p : Past) (number : ℕ) {block : List ℕ} (is : block ≡ (reader_of p).block number) {up : ℕ} (u : up ≡ block_word block up_word) where
  up_is : up ≡ up_of p number
  up_is = word_is up_word is u

  -- the up of a block that lies above it is a block too, unless it is 0
  pub up_numbered : Under p number → (up ≡ 0 → ⊥) → Numbered p.opened.head.settings up
  up_numbered h z = record { low = omega arith; high = omega (arith, up_is, h.below, h.numbered.high) }

  pub lies_under : Numbered p.opened.head.settings number → up < number → Under p number
  lies_under h l = record { numbered = h; below = omega (arith, up_is) }

  -- ---- a path block: its up is not below it, or its rows are too many, or the path goes on
  module _ {rows list : List ℕ} {n : Counts} where
    pub climb_above : number ≤ up → {e : Unsound} → Climbs p rows list n number (Err e) rows list
    climb_above g = above (rw up_is at g)

    module _ (g : up < number) {x : Result ℕ Unsound} {rows' : List ℕ}
        (taken : Takes p.opened.head.settings.tags rows n.rows (rows_of p.opened.head.settings.block p.second block) x rows') where
      pub climb_full : {e : Unsound} → x ≡ Err e → {list' : List ℕ} → Climbs p rows list n number (Err e) rows' list'
      climb_full q = full (rw up_is at g) (taken_many (rw is at taken) q)

      pub climb_on : {given : ℕ} → x ≡ Ok given → {next : ℕ} → next ≡ neighbour (reader_of p) number
          → Climbs p rows list n number
          (Ok (record { up = up; next = next; counts = record { rows = given; pages = n.pages; blocks = n.blocks + 1 } })) rows' (set list n.blocks number)
      climb_on q e = on (rw up_is at g) up_is e (taken_all (rw is at taken) q refl refl)

-- ---- the ways out of a path at block k
module _ {p : Past} {k : ℕ} {rows list : List ℕ} {n : Counts} where
  enough : {a : Result Counts Unsound} {rows' list' : List ℕ}
      → ((f : ℕ) → k ≤ f → WalkTold p.opened.head.settings.tags rows list n (path p.opened.head.settings.block p.second (reader_of p) (suc f) k) a rows' list')
      → PathTold p k rows list n a rows' list'
  enough {a} {rows'} {list'} g = record {
    told = with_fuel (λ f. WalkTold p.opened.head.settings.tags rows list n (path p.opened.head.settings.block p.second (reader_of p) f k) a rows' list') k g;
  }

  -- It is at 0,
  pub top_told : k ≡ 0 → n.rows ≤ p.opened.head.settings.tags → PathTold p k rows list n (Ok n) rows list
  unfolding path
  top_told e g = enough (λ f q. rw (eq-eqb k 0 e) (told_none p.opened.head.settings.tags rows list n g))

  module _ (z : k ≡ 0 → ⊥) where
    -- or its up is unsound or its rows are too many,
    stop_told : {e : Unsound} {rows₁ list₁ : List ℕ} → Climbs p rows list n k (Err e) rows₁ list₁ → PathTold p k rows list n (Err e) rows₁ list₁
    unfolding path
    stop_told (above g) = enough (λ f q. rw (ne_eqb k 0 z, le-leb k _ g) bad)
    stop_told (full g x) = enough (λ f q.
        let b = p.opened.head.settings.block in
        let v = visit b p.second (reader_of p) (suc k) (up_of p k) k (neighbour (reader_of p) k) in
        rw (ne_eqb k 0 z, lt-leb k _ g) (told_stop p.opened.head.settings.tags rows list n (and_then v (path b p.second (reader_of p) f (up_of p k))) x))

    -- or its left neighbour is visited,
    module _ {i : PathBlock} {a : Result Counts Unsound} {rows₁ list₁ rows₂ list₂ : List ℕ}
        (visited : VisitTold p i.up k i.next rows₁ list₁ i.counts a rows₂ list₂) where
      -- which stops the path,
      visit_told : {u : Unsound} → a ≡ Err u → Climbs p rows list n k (Ok i) rows₁ list₁ → PathTold p k rows list n (Err u) rows₂ list₂
      unfolding path
      visit_told e (on g y w x) = enough (λ f q.
          rw (ne_eqb k 0 z, lt-leb k _ g)
          (told_then p.opened.head.settings.tags rows list n x
          (told_stop p.opened.head.settings.tags rows₁ list₁ i.counts _ (rw (y, w, e) at (visited.told (suc k) (omega arith))))))

      -- or the path goes on from the up.
      next_told : {m : Counts} → a ≡ Ok m → Climbs p rows list n k (Ok i) rows₁ list₁ → {r : Result Counts Unsound} {rows₃ list₃ : List ℕ}
          → PathTold p i.up rows₂ list₂ m r rows₃ list₃ → PathTold p k rows list n r rows₃ list₃
      unfolding path
      next_told e (on g y w x) rest = enough (λ f q.
          rw (ne_eqb k 0 z, lt-leb k _ g)
          (told_then p.opened.head.settings.tags rows list n x
          (told_then p.opened.head.settings.tags rows₁ list₁ i.counts (rw (y, w, e) at (visited.told (suc k) (omega arith)))
          (rw y at (rest.told f (omega arith))))))

-- ---- the loop: there is room, both buffers are as long as they were lent, and what tells the path from here tells the whole path
pub record OnPath (p : Past) (k₀ : ℕ) (rows₀ list₀ : List ℕ) (n₀ : Counts) (k : ℕ) (rows list : List ℕ) (n : Counts) : Type 0 where
  pub room : Reach p k n rows list
  pub same_rows : length rows ≡ length rows₀
  pub same_list : length list ≡ length list₀
  pub whole : {a : Result Counts Unsound} {rows' list' : List ℕ} → PathTold p k rows list n a rows' list' → PathTold p k₀ rows₀ list₀ n₀ a rows' list'

pub begun : {p : Past} {k : ℕ} {rows list : List ℕ} {n : Counts} → Reach p k n rows list → OnPath p k rows list n k rows list n
begun r = record { room = r; same_rows = refl; same_list = refl; whole = λ c. c }

-- one block is listed
stepped : {p : Past} {k : ℕ} {n : Counts} {rows list rows₁ list₁ : List ℕ} {i : PathBlock} → Climbs p rows list n k (Ok i) rows₁ list₁
    → (i.counts.blocks ≡ n.blocks + 1) × (i.counts.rows ≤ p.opened.head.settings.tags) × (i.up < k)
stepped {k = k} (on g y w x) =
    let (r, l, e, f) = told_found x in
    let q : l ≡ k ∷ [] = cc in
    let c : length l ≡ 1 = rw q in
    (omega (arith, f.blocks), f.fits, rw (← y) at g)

module _ {p : Past} {k₀ : ℕ} {rows₀ list₀ : List ℕ} {n₀ : Counts} {k : ℕ} {rows list : List ℕ} {n : Counts}
    (so_far : OnPath p k₀ rows₀ list₀ n₀ k rows list n) where
  -- At 0 it ends;
  pub path_ends : k ≡ 0 → PathTold p k₀ rows₀ list₀ n₀ (Ok n) rows list
  path_ends e = so_far.whole (top_told e so_far.room.fits)

  -- at a block there is room for it,
  module _ (z : k ≡ 0 → ⊥) where
    pub path_numbered : Numbered p.opened.head.settings k
    path_numbered = record { low = omega arith; high = so_far.room.known }

    pub path_space : Space p n rows list
    path_space = record { buffers = so_far.room.buffers; fits = so_far.room.fits; block = omega (arith, so_far.room.blocks) }

    module _ {b : Result PathBlock Unsound} {rows₁ list₁ : List ℕ} (climbed : Climbs p rows list n k b rows₁ list₁) where
      -- which is unsound,
      pub path_stops : {u : Unsound} → b ≡ Err u → PathTold p k₀ rows₀ list₀ n₀ (Err u) rows₁ list₁
      path_stops e = so_far.whole (stop_told z (rw e at climbed))

      module _ {i : PathBlock} (e : b ≡ Ok i) where
        pub up_below : i.up < k
        up_below = (stepped (rw e at climbed)).2

        module _ (same_rows : length rows₁ ≡ length rows) (same_list : length list₁ ≡ length list) where
          -- or leaves room for the visit of its left neighbour,
          pub visit_room : Gap p i.up k i.counts rows₁ list₁
          visit_room =
              let y = stepped (rw e at climbed) in
              let room = so_far.room in
              record {
                buffers = buffers_same room.buffers same_rows same_list;
                fits = y.1;
                gap = y.2;
                known = omega (arith, room.known);
                blocks = omega (arith, room.blocks);
              }

          module _ {a : Result Counts Unsound} {rows₂ list₂ : List ℕ} (visited : VisitTold p i.up k i.next rows₁ list₁ i.counts a rows₂ list₂) where
            -- which is unsound,
            pub path_visit_stops : {u : Unsound} → a ≡ Err u → PathTold p k₀ rows₀ list₀ n₀ (Err u) rows₂ list₂
            path_visit_stops q = so_far.whole (visit_told z visited q (rw e at climbed))

            -- or the path goes on one block up.
            pub path_turn : {m : Counts} → a ≡ Ok m → length rows₂ ≡ length rows₁ → length list₂ ≡ length list₁
                → OnPath p k₀ rows₀ list₀ n₀ i.up rows₂ list₂ m
            path_turn q same-rows₂ same-list₂ =
                let y = stepped (rw e at climbed) in
                let room = so_far.room in
                let (r, l, w, g) = told_found (rw q at (visited.told (suc (k - i.up)) (omega arith))) in
                let few = short_found (visit_short p.opened.head.settings.block p.second (reader_of p) (suc (k - i.up)) i.up k i.next y.2) w in
                record {
                  room = record {
                    buffers = buffers_same room.buffers (same-rows₂ ∙ same_rows) (same-list₂ ∙ same_list);
                    fits = g.fits;
                    known = omega (arith, room.known);
                    blocks = omega (arith, room.blocks, g.blocks);
                  };
                  same_rows = same-rows₂ ∙ same_rows ∙ so_far.same_rows;
                  same_list = same-list₂ ∙ same_list ∙ so_far.same_list;
                  whole = λ c. so_far.whole (next_told z visited q (rw e at climbed) c);
                }
