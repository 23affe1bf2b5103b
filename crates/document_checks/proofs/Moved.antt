-- What holds of those entries whose numbers others have too, in any order, and of all entries.
use Rattle.std.proofs.Common.{◌≡◌, ℕ, ◌+◌, ◌-◌, ◌≤◌, Bool, true, false, eqb, cond, List, [], ◌∷◌}
use Rattle.std.proofs.Common.{refl, sym, ap, subst, ◌∙◌, inl, inr, arith, Option, Some, None, IfNone}
use Rattle.std.specs.List.{filter, sum_by, count_by}
use Rattle.std.specs.List.Sorted.{IsPermutation}
use Rattle.std.proofs.lemmas.Bool.{cases_Bool, cases_lt, eq-eqb}
use Rattle.std.proofs.lemmas.List.Sorted.{sum_by-IsPermutation}
use Rattle.std.proofs.lemmas.List.Sums.{sum_by-cons, sum_by-le-sum_by}
use Rattle.point_codec.specs.Points.{Item}
use Rattle.point_codec.specs.Seen.{items_of}
use Rattle.point_codec.specs.declared.entries.Entry.{Entry}
use Rattle.leaf_codec.specs.LeafOrder.{item_of, same_item, NoneTwice}
use Rattle.documents.proofs.Totals.{sum_by-filter}
use Rattle.document_checks.specs.Crowded.{AreFew, IsCrowded, IsLeastCrowded, count_of}
use Rattle.document_checks.proofs.Once.{same_is}

abbrev one_if : Bool → ℕ
one_if b = cond b 1 0

-- ---- counts of what a filter keeps

fewer : (p q : Item → Bool) (xs : List Item) → count_by q (filter p xs) ≤ count_by q xs
fewer p q xs =
    let e = sum_by-filter (λ (x : Item). one_if (q x)) p xs in
    let le = sum_by-le-sum_by (λ (x : Item). cond (p x) (one_if (q x)) 0) (λ (x : Item). one_if (q x)) xs (λ x. part (p x) (one_if (q x))) in
    omega (arith, e, le)
  where
    part : (b : Bool) (m : ℕ) → cond b m 0 ≤ m
    part true m = omega arith
    part false m = omega arith

as_many : (p q : Item → Bool) (xs : List Item) → ((x : Item) → q x ≡ true → p x ≡ true) → count_by q (filter p xs) ≡ count_by q xs
as_many p q xs passes = sum_by-filter (λ (x : Item). one_if (q x)) p xs ∙ (λ i. sum_by (λ x. each x i) xs)
  where
    none : (b : Bool) → ◌≡◌ {A = ℕ} (cond b 0 0) 0
    none true = refl
    none false = refl

    each : (x : Item) → cond (p x) (one_if (q x)) 0 ≡ one_if (q x)
    each x = elim (cases_Bool (q x)) [
      | inl is ↦ ap (λ (b : Bool). cond b (one_if (q x)) 0) (passes x is)
      | inr is_not ↦ ap (λ (b : Bool). cond (p x) (one_if b) 0) is_not ∙ none (p x) ∙ sym (ap one_if is_not)
    ]

-- ---- an entry and its number

same_number : (x y : Item) → same_item x y ≡ true → eqb y.doc x.doc ≡ true
same_number x y e = subst (λ (z : Item). eqb z.doc x.doc ≡ true) (same_is x y e) (itself x.doc)
  where
    itself : (n : ℕ) → eqb n n ≡ true
    itself n = eq-eqb n n refl

pub no_more : (x : Item) (xs : List Item) → count_by (same_item x) xs ≤ count_of x.doc xs
no_more x xs = sum_by-le-sum_by (λ (y : Item). one_if (same_item x y)) (λ (y : Item). one_if (eqb y.doc x.doc)) xs each
  where
    each : (y : Item) → one_if (same_item x y) ≤ one_if (eqb y.doc x.doc)
    each y = elim (cases_Bool (same_item x y)) [
      | inl same ↦ omega (arith, ap one_if same, ap one_if (same_number x y same))
      | inr apart ↦ omega (arith, ap one_if apart)
    ]

-- ---- all entries

-- entries of different numbers stand once each, and are few of each number
pub lone : (xs : List Item) → ((n : ℕ) → count_of n xs ≤ 1) → NoneTwice xs × AreFew xs
unfolding NoneTwice
lone xs one = (λ x. omega (arith, no_more x xs, one x.doc), λ n. omega (arith, one n))

-- what holds of entries holds of them in another order
module _ (xs ys : List Item) (moved : IsPermutation xs ys) where
  same_count : (q : Item → Bool) → count_by q ys ≡ count_by q xs
  same_count q = sum_by-IsPermutation (λ (x : Item). one_if (q x)) xs ys moved

  crowded_back : (n : ℕ) → IsCrowded n ys → IsCrowded n xs
  crowded_back n (inl many) = inl (omega (arith, many, same_count (λ x. eqb x.doc n)))
  crowded_back n (inr (x, is, two)) = inr (x, is, omega (arith, two, same_count (same_item x)))

  pub crowded_on : (n : ℕ) → IsCrowded n xs → IsCrowded n ys
  crowded_on n (inl many) = inl (omega (arith, many, same_count (λ x. eqb x.doc n)))
  crowded_on n (inr (x, is, two)) = inr (x, is, omega (arith, two, same_count (same_item x)))

  pub least_back : (n : ℕ) → IsLeastCrowded n ys → IsLeastCrowded n xs
  least_back n h = record { crowded = crowded_back n h.crowded; least = λ m lt crowd. h.least m lt (crowded_on m crowd) }

  pub once_back : NoneTwice ys × AreFew ys → NoneTwice xs × AreFew xs
  unfolding NoneTwice
  once_back (once, few) = (λ x. omega (arith, once x, same_count (same_item x)), λ n. omega (arith, few n, same_count (λ x. eqb x.doc n)))

-- what holds of the entries that p keeps, beside all of them
module _ (p : Item → Bool) (xs : List Item) where
  crowded_among : (n : ℕ) → IsCrowded n (filter p xs) → IsCrowded n xs
  crowded_among n (inl many) = inl (omega (arith, many, fewer p (λ x. eqb x.doc n) xs))
  crowded_among n (inr (x, is, two)) = inr (x, is, omega (arith, two, fewer p (same_item x) xs))

  -- where p keeps the entries of each number that two have
  pub all_fit : ((n : ℕ) → 2 ≤ count_of n xs → (x : Item) → eqb x.doc n ≡ true → p x ≡ true) → NoneTwice (filter p xs) × AreFew (filter p xs)
      → NoneTwice xs × AreFew xs
  unfolding NoneTwice
  all_fit keeps (once, few) = (alone, at_most)
    where
      alone : (x : Item) → count_by (same_item x) xs ≤ 1
      alone x = elim (cases_lt 1 (count_of x.doc xs)) [
        | inr one ↦ omega (arith, no_more x xs, one)
        | inl two ↦ omega (arith, once x, as_many p (same_item x) xs (λ y e. keeps x.doc two y (same_number x y e)))
      ]

      at_most : (n : ℕ) → count_of n xs ≤ 16
      at_most n = elim (cases_lt 1 (count_of n xs)) [
        | inr one ↦ omega (arith, one)
        | inl two ↦ omega (arith, few n, as_many p (λ x. eqb x.doc n) xs (keeps n two))
      ]

  -- and so a crowded number is crowded among those that are kept
  pub least_among : ((n : ℕ) → 2 ≤ count_of n xs → (x : Item) → eqb x.doc n ≡ true → p x ≡ true) → (n : ℕ) → IsLeastCrowded n (filter p xs)
      → IsLeastCrowded n xs
  least_among keeps n h = record { crowded = crowded_among n h.crowded; least = λ m lt crowd. h.least m lt (still m crowd) }
    where
      still : (m : ℕ) → IsCrowded m xs → IsCrowded m (filter p xs)
      still m (inl many) = inl (omega (arith, many, as_many p (λ x. eqb x.doc m) xs (keeps m (omega (arith, many)))))
      still m (inr (x, is, two)) =
          inr (x, is, omega (arith, two, as_many p (same_item x) xs (λ y e. keeps x.doc (omega (arith, two, no_more x xs)) y (same_number x y e))))

-- ---- entries as items

pub items-filter : {D : ℕ} (p : Item → Bool) (xs : List (Entry D)) → items_of (filter (λ e. p (item_of e)) xs) ≡ filter p (items_of xs)
items-filter p [] = refl
items-filter {D} p (x ∷ xs) = by (p (item_of x)) (items-filter p xs)
  where
    by : (b : Bool) → items_of (filter (λ e. p (item_of e)) xs) ≡ filter p (items_of xs)
        → items_of (cond b (x ∷ filter (λ e. p (item_of e)) xs) (filter (λ e. p (item_of e)) xs))
        ≡ cond b (item_of x ∷ filter p (items_of xs)) (filter p (items_of xs))
    by true e = ap (λ (l : List Item). item_of x ∷ l) e
    by false e = e

pub count_entries : {D : ℕ} (n : ℕ) (xs : List (Entry D)) → count_of n (items_of xs) ≡ count_by (λ e. eqb e.doc n) xs
count_entries n [] = refl
count_entries {D} n (x ∷ xs) =
    sum_by-cons (λ (y : Item). one_if (eqb y.doc n)) (item_of x) (items_of xs)
    ∙ ap (λ (m : ℕ). one_if (eqb x.doc n) + m) (count_entries n xs)
    ∙ sym (sum_by-cons (λ (e : Entry D). one_if (eqb e.doc n)) x xs)

-- ---- over answers

pub IfNone_then : {X : Type 0} (r : Option X) {P Q : Type 0} → IfNone r P → (P → Q) → IfNone r Q
IfNone_then None h f = f h
IfNone_then (Some x) h f = h
