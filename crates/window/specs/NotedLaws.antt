-- The array of the latest records, turn after turn: no record yet, one record more, a slot, a block, all blocks. And where a tag is D or more.
use Rattle.std.specs.Prelude.{◌≡◌, true, false, List, [], ◌∷◌, ◌++◌, ℕ, ◌+◌, ◌*◌, ◌-◌, ◌/◌, ◌%◌, ◌≤◌, ◌<◌, leb, get_or, set, replicate}
use Rattle.std.proofs.Math.Path.{refl}
use Rattle.std.proofs.Common.{sym, ◌∙◌, arith, le-leb}
use Rattle.std.proofs.Math.Arith.{digits_div, digits_mod}
use Rattle.std.proofs.lemmas.Bool.{lt-leb}
use Rattle.base.specs.Sums.{nil, cons, all_append, all_map}
use Rattle.base.specs.Table.{table_at, table_set, table_zeros}
use Rattle.layout.specs.declared.settings.Settings.{Settings}
use Rattle.layout.specs.Places.{block_of, slot_of, place_of}
use Rattle.layout.specs.Spot.{Spot}
use Rattle.calls.specs.Walk.{Reader}
use Rattle.calls.specs.Range.{PlacedRecord, record_in}
use Rattle.calls.specs.Window.{unknown_tag}
use Rattle.window.specs.Noted.{record_at, Met, latest_place, Noted, Named, later_place}
use Rattle.window.specs.LatestLaws.{tag_own, tag_other, tag_named, any_left, any_last, any_none}

-- ---- tags of D or more
pub unknown_left : (d : ℕ) (l m : List PlacedRecord) → unknown_tag d l ≡ true → unknown_tag d (l ++ m) ≡ true
unfolding unknown_tag
unknown_left d l m e = any_left (λ r. leb d r.tag) l m e

pub unknown_last : (d : ℕ) (l : List PlacedRecord) (r : PlacedRecord) → d ≤ r.tag → unknown_tag d (l ++ (r ∷ [])) ≡ true
unfolding unknown_tag
unknown_last d l r h = any_last (λ r. leb d r.tag) l (le-leb d r.tag h)

known_more : (d : ℕ) (l : List PlacedRecord) (r : PlacedRecord) → unknown_tag d l ≡ false → r.tag < d → unknown_tag d (l ++ (r ∷ [])) ≡ false
unfolding unknown_tag
known_more d l r e h = any_none (λ r. leb d r.tag) l e (lt-leb d r.tag h)

-- ---- the array
module _ {s : Settings} {R : Reader} where
  pub noted_none : (most : ℕ) → Noted s R [] most (replicate 4096 0)
  unfolding latest_place unknown_tag
  noted_none most = record { is = table_zeros 4096 (latest_place []) (λ i. refl); met = nil; known = refl }

  met_wider : {most most' : ℕ} → most ≤ most' → (r : PlacedRecord) → Met s R most r → Met s R most' r
  met_wider h r m = record { low = m.low; high = omega (arith, m.high); numbered = m.numbered; is = m.is }

  pub noted_wider : {l : List PlacedRecord} {most most' : ℕ} {best : List ℕ} → most ≤ most' → Noted s R l most best → Noted s R l most' best
  noted_wider h n = record { is = n.is; met = all_map (met_wider h) n.met; known = n.known }

  module _ {l : List PlacedRecord} {most : ℕ} {best : List ℕ} (n : Noted s R l most best) where
    pub noted_at : (tag : ℕ) → tag < 4096 → get_or best tag 0 ≡ latest_place l tag
    noted_at tag h = rw n.is (table_at 4096 (latest_place l) tag h)

    pub noted_named : (tag : ℕ) → tag < 4096 → Named s (get_or best tag 0)
    noted_named tag h = rw (noted_at tag h) (tag_named n.met tag)

    -- one record more, of a greater place and a tag below D
    pub noted_more : (r : PlacedRecord) {most' : ℕ} → Met s R most' r → most < r.place → r.tag < s.tags → s.tags ≤ 4096
        → {at x : ℕ} → at ≡ r.tag → x ≡ later_place s R (get_or best at 0) r.place r.from → Noted s R (l ++ (r ∷ [])) most' (set best at x)
    noted_more r m h below few {at} {x} e f =
        let own : x ≡ latest_place (l ++ (r ∷ [])) at =
        f ∙ (rw (noted_at at (omega arith), e) (sym (tag_own n.met r h))) in
        record {
          is = rw n.is (table_set 4096 (latest_place l) (latest_place (l ++ (r ∷ []))) at x (omega arith) own
              (λ tag i d. tag_other l r tag (λ q. d (q ∙ sym e))));
          met = all_append (all_map (met_wider (omega (arith, m.high))) n.met) (cons m nil);
          known = known_more s.tags l r n.known below;
        }

-- ---- a slot: the record is the one that its place names
place_div : (b m k : ℕ) → k < b → (m * b + k + 1 - 1) / b ≡ m
place_div b m k h = let e : m * b + k + 1 - 1 ≡ m * b + k = omega arith in rw e (digits_div m h)

place_mod : (b m k : ℕ) → k < b → (m * b + k + 1 - 1) % b ≡ k
place_mod b m k h = let e : m * b + k + 1 - 1 ≡ m * b + k = omega arith in rw e (digits_mod m h)

record_same : (s : Settings) (R : Reader) {n n' k k' : ℕ} → n ≡ n' → k ≡ k' → record_in s n (R.block n) k ≡ record_in s n' (R.block n') k'
record_same s R e f = rw (e, f)

module _ {s : Settings} (R : Reader) {n k : ℕ} (spot : Spot s n k) where
  block_back : block_of s (place_of s n k) ≡ n
  block_back = let e = place_div s.block (n - 1) k spot.slot in omega (arith, spot.block)

  slot_back : slot_of s (place_of s n k) ≡ k
  slot_back = place_mod s.block (n - 1) k spot.slot

  pub slot_met : Met s R ((n - 1) * s.block + (k + 1)) (record_in s n (R.block n) k)
  unfolding record_at
  slot_met = record {
    low = omega arith;
    high = omega arith;
    numbered = rw block_back spot.block;
    is = record_same s R block_back slot_back;
  }
