-- What a leaf says of its dimensions depends on the items and not on their order.
use Rattle.std.proofs.Common.{◌≡◌, ℕ, ◌<◌, ◌≤◌, Bool, true, ltb, eqb, List, [], ◌∷◌, cond, refl, ap, ◌∙◌}
use Rattle.std.proofs.Common.{arith, ◌&&◌, ◌||◌, Option, Some, None, unwrap_or, IfSome, not, leb, inl, inr}
use Rattle.std.specs.List.{range_with_len, list_all, find, All, position_or_len}
use Rattle.std.specs.List.Sorted.{IsPermutation}
use Rattle.std.proofs.lemmas.Bool.{cases_Bool, and_parts}
use Rattle.std.proofs.lemmas.List.Elements.{All-head, All-tail}
use Rattle.std.proofs.lemmas.List.Sorted.{list_any-IsPermutation}
use Rattle.point_codec.specs.Points.{Item}
use Rattle.leaf_codec.specs.Dimensions.{key_byte, different, shared_prefix, sorted_dimension, narrowest, count_values, varies, spread}
use Rattle.leaf_codec.proofs.Narrowest.{All-range}

pub different-IsPermutation : (d i : ℕ) (xs ys : List Item) → IsPermutation xs ys → different d i xs ≡ different d i ys
different-IsPermutation d i xs ys p = λ j. count_values (λ b. list_any-IsPermutation (λ (x : Item). eqb (key_byte d i x) b) xs ys p j)

pub shared_prefix-IsPermutation : (d : ℕ) (xs ys : List Item) → IsPermutation xs ys → shared_prefix d xs ≡ shared_prefix d ys
unfolding shared_prefix
shared_prefix-IsPermutation d xs ys p = λ j. position_or_len (λ i. ltb 1 (different-IsPermutation d i xs ys p j)) (range_with_len 0 4)

pub sorted_dimension-IsPermutation : (D : ℕ) (xs ys : List Item) → IsPermutation xs ys → sorted_dimension D xs ≡ sorted_dimension D ys
unfolding sorted_dimension
sorted_dimension-IsPermutation D xs ys p = λ j. narrowest D (λ d. ltb (shared_prefix-IsPermutation d xs ys p j) 4) (λ d. spreads d j)
  where
    spreads : (d : ℕ) → spread xs d ≡ spread ys d
    spreads d = ap (λ i. different d i xs) (shared_prefix-IsPermutation d xs ys p) ∙ different-IsPermutation d (shared_prefix d ys) xs ys p

-- ---- the sorted dimension is one of the dimensions, and varies

-- what find found passes, as each element does what it does
find_found : (p : ℕ → Bool) (P : ℕ → Type 0) (xs : List ℕ) → All P xs → IfSome (find p xs) (λ x. (p x ≡ true) × P x)
find_found p P [] h = tt
find_found p P (x ∷ xs) h = elim (cases_Bool (p x)) [
  | inl passes ↦ (let e : find p (x ∷ xs) ≡ Some x = ap (λ (b : Bool). cond b (Some x) (find p xs)) passes in rw e (passes, All-head P x xs h))
  | inr fails ↦ (let e : find p (x ∷ xs) ≡ find p xs = ap (λ (b : Bool). cond b (Some x) (find p xs)) fails in rw e (find_found p P xs (All-tail P x xs h)))
]

pub narrowest_found : (D : ℕ) (v : ℕ → Bool) (s : ℕ → ℕ) (d : ℕ) → narrowest D v s ≡ Some d → (v d ≡ true) × (d < D)
unfolding narrowest
narrowest_found D v s d e =
    let test : ℕ → Bool = λ d. v d && list_all (λ e. not (v e) || leb (s d) (s e)) (range_with_len 0 D) in
    let found = rw e at (find_found test (λ i. i < D) (range_with_len 0 D) (All-range (λ i. i < D) D (λ i lt. lt))) in
    ((and_parts _ _ found.0).0, found.1)

pub sorted_found : (D : ℕ) (items : List Item) (d : ℕ) → sorted_dimension D items ≡ Some d → (varies items d ≡ true) × (d < D)
unfolding sorted_dimension
sorted_found D items d e = narrowest_found D (varies items) (spread items) d e

-- the dimension that leads, from the sorted one with D for none
pub leads : (D : ℕ) (items : List Item)
    → (unwrap_or (sorted_dimension D items) D < D → unwrap_or (sorted_dimension D items) 0 ≡ unwrap_or (sorted_dimension D items) D)
    × (D ≤ unwrap_or (sorted_dimension D items) D → unwrap_or (sorted_dimension D items) 0 ≡ 0)
leads D items = by (sorted_dimension D items) (λ d e. (sorted_found D items d e).1)
  where
    by : (o : Option ℕ) → ((d : ℕ) → o ≡ Some d → d < D) → (unwrap_or o D < D → unwrap_or o 0 ≡ unwrap_or o D) × (D ≤ unwrap_or o D → unwrap_or o 0 ≡ 0)
    by None h = (λ lt. absurd (omega arith), λ le. refl)
    by (Some d) h = (λ lt. refl, λ le. absurd (omega (arith, h d refl)))
