-- A sorted list without repetitions is the list of its elements in order.
use Rattle.std.proofs.Common.{◌≡◌, suc, ◌+◌, ◌≤◌, Bool, true, false, cond, ◌||◌, ◌&&◌, T, List, [], ◌∷◌}
use Rattle.std.proofs.Common.{length, map, ℤ, Option, Some, None, is_some, arith, refl, sym, ap, ◌∙◌, subst}
use Rattle.std.proofs.lemmas.List.{length-map}
use Rattle.std.proofs.lemmas.List.Kept.{IsStrictlySortedBy-dedup}
use Rattle.std.proofs.lemmas.List.Sorted.{list_any-IsPermutation, length_permutation}
use Rattle.std.specs.List.{list_any, dedup, dedup_from, AllByRecursion}
use Rattle.std.specs.List.Sorted.{IsStrictlySortedBy, IsPermutation, IsSorted}
use Rattle.std.specs.declared.cmp.Ordering.{Ordering}
use Rattle.std.specs.declared.cmp.Ordering.TheVariants.{Less, Equal, Greater}
use Rattle.std.specs.Ordering.{eq_by_cmp, is_eq, int_cmp, int_eq}
use Rattle.std.specs.Cmp.{IsTotalOrder, int_cmp_total, on_total}
use Rattle.std.specs.Cmp.Lexicographic.{slice_cmp, lists_total, lists_ties, pointwise}
use Rattle.std.specs.FinSet.{IsAntisymmetric, slice_cmp-IsAntisymmetric, int_cmp-IsAntisymmetric}
use Rattle.std.specs.FinMap as finite
use Rattle.std.specs.FinMap.Entries.{is_sorted, below_all, is_some-find, same_entries}
use Rattle.point_codec.specs.Order.{in_order}
use Rattle.point_codec.specs.Points.{ArePoints}

pub points_total : IsTotalOrder (slice_cmp int_cmp)
points_total = lists_total int_cmp_total

pub points_exact : IsAntisymmetric (slice_cmp int_cmp)
points_exact = slice_cmp-IsAntisymmetric int_cmp-IsAntisymmetric

pub points_tie : (xs ys : List ℤ) → pointwise int_eq xs ys ≡ eq_by_cmp (slice_cmp int_cmp) xs ys
points_tie xs ys = lists_ties int_cmp (λ a b. refl) xs ys

both_true : (a b : Bool) → T a → T b → T (a && b)
both_true true b h k = k
both_true false b h k = absurd h

-- a key is found or not
found : (x y : Option (Unit {0})) → is_some x ≡ is_some y → x ≡ y
found None None h = refl
found None (Some u) h = cc
found (Some u) None h = cc
found (Some u) (Some v) h = refl

twice : (a b : Bool) → (a || b) ≡ (a || (a || b))
twice true b = refl
twice false b = refl

-- as entries of a map with nothing at each key
abbrev pub marked : {K : Type 0} → List K → List (K × Unit {0})
marked ps = map (λ p. (p, tt)) ps

pub unmarked : {K : Type 0} (ps : List K) → map (λ e. e.0) (marked ps) ≡ ps
unmarked [] = refl
unmarked (p ∷ ps) = ap (λ qs. p ∷ qs) (unmarked ps)

remarked : {K : Type 0} (es : List (K × Unit {0})) → marked (map (λ e. e.0) es) ≡ es
remarked [] = refl
remarked (e ∷ es) = ap (λ fs. e ∷ fs) (remarked es)

module _ {K : Type 0} (R : K → K → Ordering) (o : IsTotalOrder R) (exact : IsAntisymmetric R) where
  below_marked : (p : K) (ps : List K) → AllByRecursion (λ q. R p q ≡ Less) ps → T (below_all R p (marked ps))
  below_marked p [] h = tt
  below_marked p (q ∷ qs) h = rw h.0 (below_marked p qs h.1)

  sorted_marked : (ps : List K) → IsStrictlySortedBy R ps → T (is_sorted R (marked ps))
  unfolding IsStrictlySortedBy
  sorted_marked [] h = tt
  sorted_marked (p ∷ ps) h = both_true _ _ (below_marked p ps h.0) (sorted_marked ps h.1)

  -- two ascending lists with the same members are one
  same_members : (ps qs : List K) → IsStrictlySortedBy R ps → T (is_sorted R (marked qs))
      → ((q : K) → list_any (eq_by_cmp R q) ps ≡ list_any (eq_by_cmp R q) qs) → ps ≡ qs
  same_members ps qs g h is =
      sym (unmarked ps)
      ∙ ap (map (λ e. e.0)) (same_entries R o exact (marked ps) (marked qs) (sorted_marked ps g) h
      (λ q. found _ _ (is_some-find R q (marked ps) ∙ ap (list_any (eq_by_cmp R q)) (unmarked ps) ∙ is q
      ∙ sym (is_some-find R q (marked qs) ∙ ap (list_any (eq_by_cmp R q)) (unmarked qs)))))
      ∙ unmarked qs

  in_order_sorted : (ps : List K) → T (is_sorted R (marked (in_order R ps)))
  in_order_sorted ps = subst (λ es. T (is_sorted R es)) (sym (remarked (finite.entries (finite.from_entries {R = R} (marked ps)))))
      (finite.entries_sorted (finite.from_entries {R = R} (marked ps)))

  -- an ascending list with the members of ps is ps in order
  pub in_order_is : (ps qs : List K) → IsStrictlySortedBy R qs → ((q : K) → list_any (eq_by_cmp R q) qs ≡ list_any (eq_by_cmp R q) ps) → qs ≡ in_order R ps
  in_order_is ps qs g is =
      let m = finite.from_entries {R = R} (marked ps) in
      same_members qs (in_order R ps) g (in_order_sorted ps)
      (λ q. is q
      ∙ sym (ap (list_any (eq_by_cmp R q)) (unmarked ps))
      ∙ sym (is_some-find R q (marked ps))
      ∙ ap is_some (sym (finite.get-from_entries o (marked ps) q) ∙ finite.get-entries m q)
      ∙ is_some-find R q (finite.entries m))

any_map : {X K : Type 0} (f : X → K) (t : K → Bool) (xs : List X) → list_any t (map f xs) ≡ list_any (λ x. t (f x)) xs
any_map f t [] = refl
any_map f t (x ∷ xs) = ap (λ b. t (f x) || b) (any_map f t xs)

-- what counts as the same passes alike
any_dedup_from : {X : Type 0} (E : X → X → Bool) (t : X → Bool) → ((x y : X) → E x y ≡ true → t x ≡ t y) → (k : X) (xs : List X)
    → list_any t (dedup_from E k xs) ≡ (t k || list_any t xs)
any_dedup_from E t alike k [] = refl
any_dedup_from E t alike k (x ∷ xs) =
    elim (E x k) as (λ b. E x k ≡ b → list_any t (cond b (dedup_from E k xs) (k ∷ dedup_from E x xs)) ≡ (t k || (t x || list_any t xs))) [
      | true ↦ λ e. any_dedup_from E t alike k xs ∙ rw (alike x k e) (twice (t k) _)
      | false ↦ λ e. ap (λ b. t k || b) (any_dedup_from E t alike x xs)
    ] refl

any_dedup : {X : Type 0} (E : X → X → Bool) (t : X → Bool) → ((x y : X) → E x y ≡ true → t x ≡ t y) → (xs : List X) → list_any t (dedup E xs) ≡ list_any t xs
any_dedup E t alike [] = refl
any_dedup E t alike (x ∷ xs) = any_dedup_from E t alike x xs

-- sorted by a key, and then without the repetitions; the key of each element is all that counts
module _ {X K : Type 0} (f : X → K) (R : K → K → Ordering) (o : IsTotalOrder R) (exact : IsAntisymmetric R) (E : X → X → Bool)
    (ties : (x y : X) → E x y ≡ eq_by_cmp R (f x) (f y)) where
  abbrev by_key : X → X → Ordering
  by_key x y = R (f x) (f y)

  below_map : (p : K) (xs : List X) → AllByRecursion (λ y. R p (f y) ≡ Less) xs → AllByRecursion (λ q. R p q ≡ Less) (map f xs)
  below_map p [] h = tt
  below_map p (x ∷ xs) h = (h.0, below_map p xs h.1)

  sorted_map : (xs : List X) → IsStrictlySortedBy by_key xs → IsStrictlySortedBy R (map f xs)
  unfolding IsStrictlySortedBy
  sorted_map [] h = tt
  sorted_map (x ∷ xs) h = (below_map (f x) xs h.0, sorted_map xs h.1)

  equal_keys : (r : Ordering) → is_eq r ≡ true → r ≡ Equal
  equal_keys Less h = cc
  equal_keys Equal h = refl
  equal_keys Greater h = cc

  passes_alike : (q : K) (x y : X) → E x y ≡ true → eq_by_cmp R q (f x) ≡ eq_by_cmp R q (f y)
  passes_alike q x y h = ap (eq_by_cmp R q) (exact (f x) (f y) (equal_keys _ (sym (ties x y) ∙ h)))

  pub sorted_and_dedup : (xs ys : List X) → IsPermutation xs ys → IsSorted by_key ys
      → IsStrictlySortedBy R (map f (dedup E ys)) × (map f (dedup E ys) ≡ in_order R (map f xs))
  sorted_and_dedup xs ys moved sorted =
      let rising = sorted_map (dedup E ys) (IsStrictlySortedBy-dedup (on_total f o) ties ys sorted) in (
        rising,
        in_order_is R o exact (map f xs) _ rising (λ q.
            any_map f (eq_by_cmp R q) (dedup E ys)
            ∙ any_dedup E (λ x. eq_by_cmp R q (f x)) (passes_alike q) ys
            ∙ sym (list_any-IsPermutation (λ x. eq_by_cmp R q (f x)) xs ys moved)
            ∙ sym (any_map f (eq_by_cmp R q) xs)),
      )

some_from : {X : Type 0} (E : X → X → Bool) (k : X) (xs : List X) → 1 ≤ length (dedup_from E k xs)
some_from E k [] = omega arith
some_from E k (x ∷ xs) =
    elim (E x k) as (λ b. 1 ≤ length (cond b (dedup_from E k xs) (k ∷ dedup_from E x xs))) [ true ↦ some_from E k xs | false ↦ omega arith ]

few_from : {X : Type 0} (E : X → X → Bool) (k : X) (xs : List X) → length (dedup_from E k xs) ≤ length xs + 1
few_from E k [] = omega arith
few_from E k (x ∷ xs) =
    elim (E x k) as (λ b. length (cond b (dedup_from E k xs) (k ∷ dedup_from E x xs)) ≤ suc (length xs) + 1) [
      | true ↦ omega (arith, few_from E k xs)
      | false ↦ omega (arith, few_from E x xs)
    ]

-- some are left, and no more than there were
dedup_some : {X : Type 0} (E : X → X → Bool) (xs : List X) → 1 ≤ length xs → 1 ≤ length (dedup E xs)
dedup_some E [] h = absurd (omega arith)
dedup_some E (x ∷ xs) h = some_from E x xs

dedup_few : {X : Type 0} (E : X → X → Bool) (xs : List X) → length (dedup E xs) ≤ length xs
dedup_few E [] = omega arith
dedup_few E (x ∷ xs) = omega (arith, few_from E x xs)

-- one point alone is a list of points in order
pub one_point : (point : List ℤ) → ArePoints (point ∷ [])
unfolding IsStrictlySortedBy
one_point point = record { some = omega arith; few = omega arith; ascending = (tt, tt) }

-- of 1 to 16 elements, moved and rid of repetitions, 1 to 16 are left
pub still_few : {X Y : Type 0} (f : X → Y) (E : X → X → Bool) (xs ys : List X) → IsPermutation xs ys → 1 ≤ length xs → length xs ≤ 16
    → (1 ≤ length (map f (dedup E ys))) × (length (map f (dedup E ys)) ≤ 16)
still_few f E xs ys moved some few =
    let same : length ys ≡ length xs = length_permutation xs ys moved in
    let some' : 1 ≤ length ys = omega arith in
    let kept : length (map f (dedup E ys)) ≡ length (dedup E ys) = length-map (dedup E ys) f in
    (omega (arith, dedup_some E ys some'), omega (arith, dedup_few E ys))
