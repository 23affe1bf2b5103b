-- How many numbers of a range pass a test.
use Rattle.std.proofs.Common.{◌≡◌, ℕ, zero, suc, ◌+◌, ◌<◌, ◌≤◌, Bool, true, false, List, length, get_or, refl, ap, ◌∙◌, arith, cond, inl, inr}
use Rattle.std.specs.List.{range_with_len, count_by}
use Rattle.std.proofs.lemmas.Bool.{cases_Bool, cases_eq, cases_order}
use Rattle.std.proofs.lemmas.List.Sums.{sum_by-cons}
use Rattle.leaf_codec.proofs.Lists.{as_range, sum_by-map, sum_agree}
use Rattle.leaf_codec.specs.Dimensions.{count_values}

abbrev one_if : Bool → ℕ
one_if b = cond b 1 0

pub count_agree : (p q : ℕ → Bool) (a n : ℕ) → ((i : ℕ) → a ≤ i → i < a + n → p i ≡ q i) → count_by p (range_with_len a n) ≡ count_by q (range_with_len a n)
count_agree p q a n h = sum_agree (λ i. cond (p i) 1 0) (λ i. cond (q i) 1 0) a n (λ i low high. ap (λ (b : Bool). cond b 1 0) (h i low high))

-- the set elements of a table of 256, counted by their places
pub counted : (bs : List Bool) → length bs ≡ 256 → count_by (λ b. b) bs ≡ count_values (λ v. get_or bs v false)
unfolding count_values
counted bs long =
    ap (count_by (λ b. b)) (as_range bs false)
    ∙ sum_by-map (λ (b : Bool). cond b 1 0) (λ i. get_or bs i false) (range_with_len 0 (length bs))
    ∙ ap (λ n. count_by (λ v. get_or bs v false) (range_with_len 0 n)) long

pub values_agree : (p q : ℕ → Bool) → ((i : ℕ) → i < 256 → p i ≡ q i) → count_values p ≡ count_values q
unfolding count_values
values_agree p q h = count_agree p q 0 256 (λ i low high. h i high)

pub count-cons : (p : ℕ → Bool) (a n : ℕ) → count_by p (range_with_len a (suc n)) ≡ cond (p a) 1 0 + count_by p (range_with_len (a + 1) n)
count-cons p a n = sum_by-cons (λ i. cond (p i) 1 0) a (range_with_len (a + 1) n)

-- where no number of a range passes, none is counted
pub count_none : (p : ℕ → Bool) (a n : ℕ) → ((i : ℕ) → a ≤ i → i < a + n → p i ≡ false) → count_by p (range_with_len a n) ≡ 0
count_none p a zero h = refl
count_none p a (suc n) h =
    count-cons p a n
    ∙ (λ j. cond (h a (omega arith) (omega arith) j) 1 0 + count_none p (a + 1) n (λ i low high. h i (omega arith) (omega arith)) j)

-- at most one value passes
count_one : (p : ℕ → Bool) (b a n : ℕ) → ((i : ℕ) → p i ≡ true → i ≡ b) → count_by p (range_with_len a n) ≤ 1
count_one p b a zero h = omega arith
count_one p b a (suc n) h = elim (cases_Bool (p a)) [
  | inl set ↦ (
      let rest : count_by p (range_with_len (a + 1) n) ≡ 0 = count_none p (a + 1) n (λ i low high. other i (omega arith) set) in
      let here : one_if (p a) ≡ 1 = ap one_if set in
      omega (arith, count-cons p a n, rest, here))
  | inr unset ↦ (
      let here : one_if (p a) ≡ 0 = ap one_if unset in
      omega (arith, count-cons p a n, count_one p b (a + 1) n h, here))
]
  where
    other : (i : ℕ) → a < i → p a ≡ true → p i ≡ false
    other i lt set = elim (cases_Bool (p i)) [
      | inl also ↦ absurd (omega (arith, h i also, h a set))
      | inr so ↦ so
    ]

-- a value that passes is counted
count_some : (p : ℕ → Bool) (u a n : ℕ) → a ≤ u → u < a + n → p u ≡ true → 1 ≤ count_by p (range_with_len a n)
count_some p u a zero low high h = absurd (omega arith)
count_some p u a (suc n) low high h = elim (cases_eq a u) [
  | inl same ↦ (
      let here : one_if (p a) ≡ 1 = ap one_if (ap p same ∙ h) in
      omega (arith, count-cons p a n, here))
  | inr apart ↦ omega (arith, count-cons p a n, count_some p u (a + 1) n (omega arith) (omega arith) h)
]

-- two different values that pass are counted
count_two : (p : ℕ → Bool) (u v a n : ℕ) → a ≤ u → u < v → v < a + n → p u ≡ true → p v ≡ true → 2 ≤ count_by p (range_with_len a n)
count_two p u v a zero low order high hu hv = absurd (omega arith)
count_two p u v a (suc n) low order high hu hv = elim (cases_eq a u) [
  | inl same ↦ (
      let here : one_if (p a) ≡ 1 = ap one_if (ap p same ∙ hu) in
      omega (arith, count-cons p a n, here, count_some p v (a + 1) n (omega arith) (omega arith) hv))
  | inr apart ↦ omega (arith, count-cons p a n, count_two p u v (a + 1) n (omega arith) order (omega arith) hu hv)
]

pub values_one : (p : ℕ → Bool) (b : ℕ) → ((i : ℕ) → p i ≡ true → i ≡ b) → count_values p ≤ 1
unfolding count_values
values_one p b h = count_one p b 0 256 h

pub values_two : (p : ℕ → Bool) (u v : ℕ) → u < 256 → v < 256 → (u ≡ v → ⊥) → p u ≡ true → p v ≡ true → 2 ≤ count_values p
unfolding count_values
values_two p u v hu hv apart pu pv = elim (cases_order u v) [
  | inl same ↦ absurd (apart same)
  | inr (inl lt) ↦ count_two p u v 0 256 (omega arith) lt hv pu pv
  | inr (inr gt) ↦ count_two p v u 0 256 (omega arith) gt hu pv pu
]
