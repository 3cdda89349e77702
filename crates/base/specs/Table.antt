-- Lists given by a function of the place: a local array that a loop fills is one, turn after turn.
use Rattle.std.specs.Prelude.{◌≡◌, refl, ◌≢◌, List, [], ◌∷◌, ◌++◌, ℕ, zero, suc, ◌<◌, length, get_or, set, replicate}
use Rattle.std.proofs.Common.{sym, ◌∙◌, arith, length-append, length-set, ext_get_or, get_or-set_same, get_or-set_other}
use Rattle.std.proofs.lemmas.List.{length-replicate, get_or-replicate, get_or_at}
use Rattle.std.proofs.Math.ListN.{get_or-append}
use Rattle.base.specs.Branch.{lt?, is?}

-- The numbers f 0, f 1, .. f (d − 1).
unfoldable pub table : ℕ → (ℕ → ℕ) → List ℕ
table zero f = []
table (suc d) f = table d f ++ (f d ∷ [])

pub table_length : (d : ℕ) (f : ℕ → ℕ) → length (table d f) ≡ d
unfolding table
table_length zero f = refl
table_length (suc d) f = simp length-append (omega (arith, table_length d f))

pub table_at : (d : ℕ) (f : ℕ → ℕ) (i : ℕ) → i < d → get_or (table d f) i 0 ≡ f i
unfolding table
table_at zero f i h = absurd (omega arith)
table_at (suc d) f i h = lt? i d
    (λ l. get_or-append (table d f) (f d ∷ []) 0 i (omega (arith, table_length d f)) ∙ table_at d f i l)
    (λ l. let e : i ≡ d = omega arith in rw e (get_or_at (table d f) (f d) [] 0 d (table_length d f)))

-- A list is a table by its elements.
pub as_table : (l : List ℕ) (d : ℕ) (f : ℕ → ℕ) → length l ≡ d → ((i : ℕ) → i < d → get_or l i 0 ≡ f i) → l ≡ table d f
as_table l d f e h = ext_get_or 0 l (table d f) (e ∙ sym (table_length d f)) (λ i k. h i (omega arith) ∙ sym (table_at d f i (omega arith)))

pub table_same : (d : ℕ) (f g : ℕ → ℕ) → ((i : ℕ) → i < d → f i ≡ g i) → table d f ≡ table d g
table_same d f g h = as_table (table d f) d g (table_length d f) (λ i l. table_at d f i l ∙ h i l)

-- One place set: the other function agrees elsewhere.
pub table_set : (d : ℕ) (f g : ℕ → ℕ) (i x : ℕ) → i < d → x ≡ g i → ((j : ℕ) → j < d → j ≢ i → f j ≡ g j) → set (table d f) i x ≡ table d g
table_set d f g i x h e o =
    as_table (set (table d f) i x) d g (length-set (table d f) i x ∙ table_length d f)
    (λ j l. is? j i
    (λ p. rw p (get_or-set_same (table d f) i x 0 (omega (arith, table_length d f)) ∙ e))
    (λ p. get_or-set_other (table d f) i j x 0 p ∙ (table_at d f j l ∙ o j l p)))

pub table_zeros : (d : ℕ) (f : ℕ → ℕ) → ((i : ℕ) → f i ≡ 0) → replicate d 0 ≡ table d f
table_zeros d f h = as_table (replicate d 0) d f (length-replicate d 0) (λ i l. get_or-replicate d i 0 0 l ∙ sym (h i))
