-- Lists of entries with the same totals are permutations of each other, and the other way round.
use Rattle.std.proofs.Common.{◌≡◌, ℕ, ◌+◌, ◌≤◌, Bool, true, false, cond, List, [], ◌∷◌, refl, sym, ap, subst, ◌∙◌, inl, inr, arith, Ordering, Equal}
use Rattle.std.specs.List.{Contains, filter, sum_by, remove}
use Rattle.std.specs.List.Sorted.{IsPermutation}
use Rattle.std.specs.Ordering.{eq_by_cmp, int_cmp, nat_cmp, ordering_then}
use Rattle.std.specs.Cmp.{IsTotalOrder, eq_by_cmp_equiv, nat_cmp_total, on_total, then_total}
use Rattle.std.specs.Cmp.Lexicographic.{slice_cmp}
use Rattle.std.proofs.lemmas.Bool.{cases_Bool}
use Rattle.std.proofs.lemmas.List.Sorted.{IsPermutation-refl, IsPermutation-cons, IsPermutation-remove}
use Rattle.std.proofs.lemmas.List.Sorted.{IsPermutation-sym, IsPermutation-trans, sum_by-IsPermutation}
use Rattle.std.proofs.lemmas.List.Sums.{sum_by-cons}
use Rattle.std.proofs.lemmas.Map.Lookups.{exact_pairs, exact_unsigned}
use Rattle.std.proofs.lemmas.Map.Views.{tells_apart}
use Rattle.point_codec.specs.Points.{Item}
use Rattle.point_codec.proofs.Ordered.{points_total, points_exact}
use Rattle.documents.specs.Entries.{SameTotals}
use Rattle.documents.proofs.Lists.{cons_head, cons_tail}

-- ---- whether two entries are one

abbrev pub item_cmp : Item → Item → Ordering
item_cmp x y = ordering_then (nat_cmp x.doc y.doc) (slice_cmp int_cmp x.at y.at)

pub item_total : IsTotalOrder item_cmp
item_total = then_total (on_total (λ (x : Item). x.doc) nat_cmp_total) (on_total (λ (x : Item). x.at) points_total)

pub item_exact : (x y : Item) → item_cmp x y ≡ Equal → x ≡ y
item_exact x y h =
    let same : (x.doc, x.at) ≡ (y.doc, y.at) = exact_pairs nat_cmp (slice_cmp int_cmp) exact_unsigned points_exact (x.doc, x.at) (y.doc, y.at) h in
    λ i. record { doc = (same i).0; at = (same i).1 }

abbrev pub is_item : Item → Item → Bool
is_item = eq_by_cmp item_cmp

-- ---- both directions

abbrev one_if : Bool → ℕ
one_if b = cond b 1 0

counted : {X : Type 0} (p : X → Bool) (xs : List X) → 1 ≤ sum_by (λ x. one_if (p x)) xs → (x : X) × Contains xs x × (p x ≡ true)
counted p [] h = absurd (omega (arith, h))
counted p (x ∷ xs) h = elim (cases_Bool (p x)) [
  | inl passes ↦ (x, cons_head x xs, passes)
  | inr fails ↦
      let r = counted p xs (omega (arith, h, sum_by-cons (λ y. one_if (p y)) x xs, ap one_if fails)) in
      (r.0, cons_tail x xs r.0 r.1, r.2)
]

pub totals : (xs ys : List Item) → IsPermutation xs ys → SameTotals xs ys
totals xs ys p f = sum_by-IsPermutation f xs ys p

pub permuted : (xs ys : List Item) → SameTotals xs ys → IsPermutation xs ys
permuted [] [] same = IsPermutation-refl []
permuted [] (y ∷ ys) same = absurd (omega (arith, same (λ _. 1), sum_by-cons (λ _. 1) y ys))
permuted (x ∷ xs) ys same =
    IsPermutation-trans (x ∷ xs) (x ∷ others) ys (IsPermutation-cons x xs others (permuted xs others rest)) (IsPermutation-sym ys (x ∷ others) moved)
  where
    here : Contains ys x
    here =
        let itself : is_item x x ≡ true = (eq_by_cmp_equiv item_total).refl x in
        let found = counted (is_item x) ys (omega (arith, same (λ y. one_if (is_item x y)), sum_by-cons (λ y. one_if (is_item x y)) x xs, ap one_if itself)) in
        subst (λ y. Contains ys y) (sym (tells_apart item_exact x found.0 found.2)) found.1

    others : List Item
    others = remove ys here.0

    moved : IsPermutation ys (x ∷ others)
    moved = IsPermutation-remove ys here.0 x here.1 (sym here.2)

    rest : SameTotals xs others
    rest f = omega (arith, same f, sum_by-cons f x xs, sum_by-cons f x others, sum_by-IsPermutation f ys (x ∷ others) moved)

-- ---- filters

pub sum_by-filter : {X : Type 0} (f : X → ℕ) (p : X → Bool) (xs : List X) → sum_by f (filter p xs) ≡ sum_by (λ x. cond (p x) (f x) 0) xs
sum_by-filter f p [] = refl
sum_by-filter f p (x ∷ xs) = by (p x) (sum_by-filter f p xs) ∙ sym (sum_by-cons (λ y. cond (p y) (f y) 0) x xs)
  where
    by : (b : Bool) → sum_by f (filter p xs) ≡ sum_by (λ y. cond (p y) (f y) 0) xs
        → sum_by f (cond b (x ∷ filter p xs) (filter p xs)) ≡ cond b (f x) 0 + sum_by (λ y. cond (p y) (f y) 0) xs
    by true e = omega (arith, e, sum_by-cons f x (filter p xs))
    by false e = omega (arith, e)

-- what passes of a permutation is a permutation of what passes
pub permuted_filter : (p : Item → Bool) (xs ys : List Item) → IsPermutation xs ys → IsPermutation (filter p xs) (filter p ys)
permuted_filter p xs ys moved = permuted (filter p xs) (filter p ys) (λ f.
    sum_by-filter f p ys ∙ sum_by-IsPermutation (λ x. cond (p x) (f x) 0) xs ys moved ∙ sym (sum_by-filter f p xs))
