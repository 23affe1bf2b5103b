-- Entries that are kept, and numbers that too many of them have.
use Rattle.std.proofs.Common.{◌≡◌, ℕ, ◌≤◌, Bool, true, false, eqb, cond, List, [], ◌∷◌, filter, refl, inl, inr, arith}
use Rattle.std.specs.List.{count_by}
use Rattle.std.specs.List.Sorted.{IsPermutation}
use Rattle.std.proofs.lemmas.Bool.{both_ways}
use Rattle.std.proofs.lemmas.List.Sorted.{sum_by-IsPermutation}
use Rattle.std.proofs.lemmas.List.Sums.{sum_by-cons}
use Rattle.point_codec.specs.Points.{Item}
use Rattle.leaf_codec.specs.LeafOrder.{NoneTwice, same_item}
use Rattle.document_checks.specs.Crowded.{AreFew, AreUncrowded, IsCrowded}

-- ---- how many of the entries that are kept

-- where more are kept no fewer count
pub counted_within : (p k l : Item → Bool) → ((x : Item) → k x ≡ true → l x ≡ true) → (xs : List Item) → count_by p (filter k xs) ≤ count_by p (filter l xs)
counted_within p k l more [] = omega arith
counted_within p k l more (x ∷ xs) = by (k x) refl (l x) refl (counted_within p k l more xs)
  where
    by : (a : Bool) → k x ≡ a → (b : Bool) → l x ≡ b → count_by p (filter k xs) ≤ count_by p (filter l xs)
        → count_by p (cond a (x ∷ filter k xs) (filter k xs)) ≤ count_by p (cond b (x ∷ filter l xs) (filter l xs))
    by true e true f rest = omega (arith, rest, sum_by-cons (λ y. cond (p y) 1 0) x (filter k xs), sum_by-cons (λ y. cond (p y) 1 0) x (filter l xs))
    by true e false f rest = absurd (both_ways (l x) f (more x e))
    by false e true f rest = omega (arith, rest, sum_by-cons (λ y. cond (p y) 1 0) x (filter l xs))
    by false e false f rest = rest

pub counted_filter : (p k : Item → Bool) (xs : List Item) → count_by p (filter k xs) ≤ count_by p xs
counted_filter p k [] = omega arith
counted_filter p k (x ∷ xs) = by (k x) (counted_filter p k xs)
  where
    by : (b : Bool) → count_by p (filter k xs) ≤ count_by p xs → count_by p (cond b (x ∷ filter k xs) (filter k xs)) ≤ count_by p (x ∷ xs)
    by true rest = omega (arith, rest, sum_by-cons (λ y. cond (p y) 1 0) x (filter k xs), sum_by-cons (λ y. cond (p y) 1 0) x xs)
    by false rest = omega (arith, rest, sum_by-cons (λ y. cond (p y) 1 0) x xs)

-- ---- crowds

-- a crowd of fewer entries is one of more
crowded_more : (number : ℕ) (xs ys : List Item) → ((p : Item → Bool) → count_by p xs ≤ count_by p ys) → IsCrowded number xs → IsCrowded number ys
crowded_more number xs ys more (inl many) = inl (omega (arith, many, more (λ y. eqb y.doc number)))
crowded_more number xs ys more (inr (x, is, twice)) = inr (x, is, omega (arith, twice, more (same_item x)))

pub crowded_within : (number : ℕ) (k l : Item → Bool) → ((x : Item) → k x ≡ true → l x ≡ true) → (xs : List Item) → IsCrowded number (filter k xs)
    → IsCrowded number (filter l xs)
crowded_within number k l more xs = crowded_more number (filter k xs) (filter l xs) (λ p. counted_within p k l more xs)

pub crowded_whole : (number : ℕ) (k : Item → Bool) (xs : List Item) → IsCrowded number (filter k xs) → IsCrowded number xs
crowded_whole number k xs = crowded_more number (filter k xs) xs (λ p. counted_filter p k xs)

pub few_filter : (k : Item → Bool) (xs : List Item) → AreFew xs → AreFew (filter k xs)
few_filter k xs few number = omega (arith, few number, counted_filter (λ y. eqb y.doc number) k xs)

pub none_twice_filter : (k : Item → Bool) (xs : List Item) → NoneTwice xs → NoneTwice (filter k xs)
unfolding NoneTwice
none_twice_filter k xs once x = omega (arith, once x, counted_filter (same_item x) k xs)

pub uncrowded : (xs : List Item) → NoneTwice xs → AreFew xs → AreUncrowded xs
unfolding NoneTwice
uncrowded xs once few number (inl many) = omega (arith, many, few number)
uncrowded xs once few number (inr (x, is, twice)) = omega (arith, twice, once x)

pub uncrowded_permuted : (xs ys : List Item) → IsPermutation xs ys → AreUncrowded xs → AreUncrowded ys
uncrowded_permuted xs ys moved fair number crowd =
    fair number (crowded_more number ys xs (λ p. let same = sum_by-IsPermutation (λ y. cond (p y) 1 0) xs ys moved in omega (arith, same)) crowd)
