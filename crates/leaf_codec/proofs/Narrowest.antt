-- The narrowest dimension, as a loop over the dimensions finds it.
use Rattle.std.proofs.Common.{◌≡◌, ℕ, zero, suc, ◌+◌, ◌<◌, ◌≤◌, Bool, true, false, not, leb, List, [], ◌∷◌, length}
use Rattle.std.proofs.Common.{get_or, refl, sym, ap, ◌∙◌, arith, ◌&&◌, ◌||◌, inl, inr, unwrap_or, cond, Option, Some}
use Rattle.std.specs.List.{range_with_len, list_all, find, slice_get, position_or_len}
use Rattle.std.proofs.lemmas.Bool.{cases_Bool, cases_eq, cases_lt, le-leb, lt-leb, and_left, and_right}
use Rattle.std.proofs.lemmas.Bool.{and_from, or_left, or_right, or_from, not_from_true, not_from_false}
use Rattle.std.proofs.lemmas.List.FromFn.{get_or-range_with_len, length-range_with_len}
use Rattle.std.proofs.lemmas.List.Folds.{find_at, list_all_at}
use Rattle.std.proofs.lemmas.List.Sums.{position_or_len_is}
use Rattle.std.proofs.lemmas.List.Recursion.{and_from_places}
use Rattle.std.specs.List.{All}
use Rattle.std.proofs.lemmas.List.Elements.{All-head, All-tail, All-from_get_or}
use Rattle.leaf_codec.specs.Dimensions.{narrowest}

-- best is the narrowest of the dimensions below n, of D in all, and least is its spread; or best is D where none varies
pub record IsNarrowestBelow (n D : ℕ) (varies : ℕ → Bool) (spread : ℕ → ℕ) (best least : ℕ) : Type 0 where
  pub within : best ≤ D
  pub none : best ≡ D → 256 < least
  pub found : best < D → (best < n) × (varies best ≡ true) × (spread best ≡ least)
  pub least_of : (e : ℕ) → e < n → varies e ≡ true → least ≤ spread e
  pub first : (e : ℕ) → e < n → e < best → varies e ≡ true → least < spread e

pub narrowest_none : (D most : ℕ) (varies : ℕ → Bool) (spread : ℕ → ℕ) → 256 < most → IsNarrowestBelow 0 D varies spread D most
narrowest_none D most varies spread big = record {
  within = omega arith;
  none = λ e. big;
  found = λ lt. absurd (omega arith);
  least_of = λ e lt v. absurd (omega arith);
  first = λ e lt under v. absurd (omega arith);
}

pub narrowest_takes : (n D : ℕ) (varies : ℕ → Bool) (spread : ℕ → ℕ) (best least : ℕ) → IsNarrowestBelow n D varies spread best least → n < D → varies n ≡ true
    → spread n < least → IsNarrowestBelow (n + 1) D varies spread n (spread n)
narrowest_takes n D varies spread best least h lt v less = record {
  within = omega arith;
  none = λ e. absurd (omega arith);
  found = λ under. (omega arith, v, refl);
  least_of = λ e under w. elim (cases_eq e n) [
    | inl same ↦ (let p : spread e ≡ spread n = ap spread same in omega (arith, p))
    | inr apart ↦ omega (arith, h.least_of e (omega arith) w)
  ];
  first = λ e under before w. omega (arith, h.least_of e before w);
}

pub narrowest_keeps : (n D : ℕ) (varies : ℕ → Bool) (spread : ℕ → ℕ) (best least : ℕ) → IsNarrowestBelow n D varies spread best least → n < D
    → (varies n ≡ true → least ≤ spread n) → (varies n ≡ true → spread n ≤ 256) → IsNarrowestBelow (n + 1) D varies spread best least
narrowest_keeps n D varies spread best least h lt more small = record {
  within = h.within;
  none = h.none;
  found = λ under. let f = h.found under in (omega (arith, f.0), f.1, f.2);
  least_of = λ e under w. elim (cases_eq e n) [
    | inl same ↦ (
        let p : spread e ≡ spread n = ap spread same in
        let v : varies n ≡ true = sym (ap varies same) ∙ w in
        omega (arith, p, more v))
    | inr apart ↦ h.least_of e (omega arith) w
  ];
  first = λ e under before w. elim (cases_eq e n) [
    | inl same ↦ (
        let v : varies n ≡ true = sym (ap varies same) ∙ w in
        elim (cases_lt best D) [
          | inl some ↦ absurd (omega (arith, (h.found some).0))
          | inr all ↦ (
              let whole : best ≡ D = omega (arith, h.within) in
              absurd (omega (arith, h.none whole, more v, small v)))
        ])
    | inr apart ↦ h.first e (omega arith) before w
  ];
}

-- the number at a place of a range, or the number behind its end
at_place : (a n i : ℕ) → i ≤ n → unwrap_or (slice_get (range_with_len a n) i) (a + n) ≡ a + i
at_place a zero zero le = refl
at_place a zero (suc i) le = absurd (omega arith)
at_place a (suc n) zero le = omega arith
at_place a (suc n) (suc i) le =
    ap (λ m. unwrap_or (slice_get (range_with_len (a + 1) n) i) m) (behind a n) ∙ at_place (a + 1) n i (omega arith) ∙ omega arith
  where
    behind : (a n : ℕ) → a + suc n ≡ (a + 1) + n
    behind a n = omega arith

-- at the loop's end the best dimension is the narrowest one
pub narrowest_is : (D : ℕ) (varies : ℕ → Bool) (spread : ℕ → ℕ) (best least : ℕ) → IsNarrowestBelow D D varies spread best least
    → ((e : ℕ) → e < D → varies e ≡ true → spread e ≤ 256) → unwrap_or (narrowest D varies spread) D ≡ best
unfolding narrowest
narrowest_is D varies spread best least h small =
    ap (λ (o : Option ℕ). unwrap_or o D) (find_at test (range_with_len 0 D) ∙ ap (slice_get (range_with_len 0 D)) place)
    ∙ ap (λ m. unwrap_or (slice_get (range_with_len 0 D) best) m) (omega arith)
    ∙ at_place 0 D best h.within
    ∙ omega arith
  where
    passes : ℕ → ℕ → Bool
    passes d e = not (varies e) || leb (spread d) (spread e)

    test : ℕ → Bool
    test d = varies d && list_all (passes d) (range_with_len 0 D)

    item : (k : ℕ) → k < D → get_or (range_with_len 0 D) k 0 ≡ k
    item k lt = get_or-range_with_len 0 D k 0 lt ∙ omega arith

    inside : (k : ℕ) → k < D → k < length (range_with_len 0 D)
    inside k lt = omega (arith, length-range_with_len 0 D)

    -- a dimension before the best one fails
    fails : (k : ℕ) → k < best → test k ≡ false
    fails k before = elim (cases_Bool (varies k)) [
      | inr still ↦ and_left (varies k) _ still
      | inl moves ↦ elim (cases_lt best D) [
        | inr all ↦ (
            let whole : best ≡ D = omega (arith, h.within) in
            absurd (omega (arith, h.none whole, h.least_of k (omega arith) moves, small k (omega arith) moves)))
        | inl some ↦ (
            let f = h.found some in
            let low : spread best < spread k = omega (arith, f.2, h.first k (omega arith) before moves) in
            let refused : passes k best ≡ false =
            or_from (not (varies best)) (leb (spread k) (spread best)) (not_from_true (varies best) f.1) (lt-leb (spread k) (spread best) low) in
            and_right (varies k) _ (list_all_at (passes k) (range_with_len 0 D) best 0 (inside best some) (ap (passes k) (item best some) ∙ refused)))
      ]
    ]

    -- the best dimension passes the test, where there is one
    passed : best < D → test best ≡ true
    passed some =
        let f = h.found some in
        and_from (varies best) _ f.1 (and_from_places (list_all (passes best)) (passes best) refl (λ _ _. refl) (range_with_len 0 D) 0 (λ k lt.
        let under : k < D = omega (arith, lt, length-range_with_len 0 D) in
        ap (passes best) (item k under) ∙ elim (cases_Bool (varies k)) [
          | inl moves ↦ or_right (not (varies k)) _ (le-leb (spread best) (spread k) (omega (arith, f.2, h.least_of k under moves)))
          | inr still ↦ or_left (not (varies k)) _ (not_from_false (varies k) still)
        ]))

    place : position_or_len test (range_with_len 0 D) ≡ best
    place = position_or_len_is test (range_with_len 0 D) best 0 (omega (arith, h.within, length-range_with_len 0 D))
        (λ k before. ap test (item k (omega (arith, h.within))) ∙ fails k before)
        (λ lt. let some : best < D = omega (arith, lt, length-range_with_len 0 D) in ap test (item best some) ∙ passed some)

-- ---- two descriptions of the same dimensions

find_agree : (p q : ℕ → Bool) (xs : List ℕ) → All (λ (x : ℕ). p x ≡ q x) xs → find p xs ≡ find q xs
find_agree p q [] h = refl
find_agree p q (x ∷ xs) h =
    (λ i. cond (All-head (λ (y : ℕ). p y ≡ q y) x xs h i) (Some x) (find_agree p q xs (All-tail (λ (y : ℕ). p y ≡ q y) x xs h) i))

list_all_agree : (p q : ℕ → Bool) (xs : List ℕ) → All (λ (x : ℕ). p x ≡ q x) xs → list_all p xs ≡ list_all q xs
list_all_agree p q [] h = refl
list_all_agree p q (x ∷ xs) h =
    (λ i. All-head (λ (y : ℕ). p y ≡ q y) x xs h i && list_all_agree p q xs (All-tail (λ (y : ℕ). p y ≡ q y) x xs h) i)

pub All-range : (P : ℕ → Type 0) (n : ℕ) → ((i : ℕ) → i < n → P i) → All P (range_with_len 0 n)
All-range P n h = All-from_get_or P (range_with_len 0 n) 0 (λ i lt.
    let under : i < n = omega (arith, lt, length-range_with_len 0 n) in
    let at : get_or (range_with_len 0 n) i 0 ≡ i = get_or-range_with_len 0 n i 0 under ∙ omega arith in
    rw at (h i under))

pub narrowest_agree : (D : ℕ) (v w : ℕ → Bool) (s t : ℕ → ℕ) → ((d : ℕ) → d < D → v d ≡ w d) → ((d : ℕ) → d < D → v d ≡ true → s d ≡ t d)
    → narrowest D v s ≡ narrowest D w t
unfolding narrowest
narrowest_agree D v w s t moves spreads =
    find_agree (test v s) (test w t) (range_with_len 0 D) (All-range (λ d. test v s d ≡ test w t d) D same)
  where
    passes : (ℕ → Bool) → (ℕ → ℕ) → ℕ → ℕ → Bool
    passes u r d e = not (u e) || leb (r d) (r e)

    test : (ℕ → Bool) → (ℕ → ℕ) → ℕ → Bool
    test u r d = u d && list_all (passes u r d) (range_with_len 0 D)

    each : (d : ℕ) → d < D → v d ≡ true → (e : ℕ) → e < D → passes v s d e ≡ passes w t d e
    each d lt set e under = elim (cases_Bool (v e)) [
      | inl also ↦ (λ i. not (moves e under i) || leb (spreads d lt set i) (spreads e under also i))
      | inr still ↦ or_left (not (v e)) _ (not_from_false (v e) still) ∙ sym (or_left (not (w e)) _ (not_from_false (w e) (sym (moves e under) ∙ still)))
    ]

    same : (d : ℕ) → d < D → test v s d ≡ test w t d
    same d lt = elim (cases_Bool (v d)) [
      | inl set ↦ (λ i. moves d lt i
          && list_all_agree (passes v s d) (passes w t d) (range_with_len 0 D) (All-range (λ e. passes v s d e ≡ passes w t d e) D (each d lt set)) i)
      | inr still ↦ and_left (v d) _ still ∙ sym (and_left (w d) _ (sym (moves d lt) ∙ still))
    ]
