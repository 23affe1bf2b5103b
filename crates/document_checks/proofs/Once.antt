-- Entries of which none stands twice.
use Rattle.std.proofs.Common.{◌≡◌, ◌≢◌, ℕ, ◌+◌, ◌<◌, ◌≤◌, Bool, true, false, eqb, cond, List, [], ◌∷◌, length, get_or}
use Rattle.std.proofs.Common.{take, drop, refl, sym, ap, ◌∙◌, inl, inr, arith, length-drop, length-take-le}
use Rattle.std.specs.List.{All, AllPairs, count_by}
use Rattle.std.specs.Ordering.{int_eq}
use Rattle.std.specs.Cmp.Lexicographic.{pointwise}
use Rattle.std.specs.Cmp.Rules.{signed_items}
use Rattle.std.proofs.lemmas.Bool.{and_from, and_parts, cases_Bool, eq-eqb, eqb-true, false_from_ne_true}
use Rattle.std.proofs.lemmas.List.{get_or-drop, get_or-take}
use Rattle.std.proofs.lemmas.List.Elements.{All-head, All-tail, All-weaker}
use Rattle.std.proofs.lemmas.List.Sums.{get_or-le-sum_by, sum_by-take-drop}
use Rattle.point_codec.specs.Points.{Item}
use Rattle.leaf_codec.specs.LeafOrder.{same_item, NoneTwice}
use Rattle.leaf_codec.proofs.OrderLemmas.{count-cons}
use Rattle.documents.specs.Entries.{MakeDocs}
use Rattle.documents.proofs.Lists.{pairs_after, pairs_tail}
use Rattle.document_checks.specs.Crowded.{IsCrowded}

abbrev one_if : Bool → ℕ
one_if b = cond b 1 0

-- ---- the test of equality

pub same_is : (x y : Item) → same_item x y ≡ true → x ≡ y
same_is x y e =
    let parts = and_parts (eqb x.doc y.doc) (pointwise int_eq x.at y.at) e in
    let doc = eqb-true x.doc y.doc parts.0 in
    let at = (signed_items x.at y.at).0 parts.1 in
    λ i. record { doc = doc i; at = at i }

pub is_same : (x y : Item) → x ≡ y → same_item x y ≡ true
is_same x y e =
    and_from (eqb x.doc y.doc) (pointwise int_eq x.at y.at)
    (eq-eqb x.doc y.doc (ap (λ (z : Item). z.doc) e))
    ((signed_items x.at y.at).1 (ap (λ (z : Item). z.at) e))

-- ---- no two of a list are equal

none_of : (x : Item) (ys : List Item) → All (λ (y : Item). x ≢ y) ys → count_by (same_item x) ys ≡ 0
none_of x [] h = refl
none_of x (y ∷ ys) h =
    let apart : same_item x y ≡ false = false_from_ne_true (same_item x y) (λ t. All-head (λ (z : Item). x ≢ z) y ys h (same_is x y t)) in
    omega (arith, count-cons (same_item x) y ys, ap one_if apart, none_of x ys (All-tail (λ (z : Item). x ≢ z) y ys h))

at_most_once : (xs : List Item) → AllPairs (λ (x y : Item). x ≢ y) xs → (x : Item) → count_by (same_item x) xs ≤ 1
at_most_once [] up x = omega arith
at_most_once (y ∷ ys) up x = elim (cases_Bool (same_item x y)) [
  | inl same ↦
      let others : All (λ (z : Item). x ≢ z) ys =
      All-weaker (λ (z : Item). y ≢ z) (λ (z : Item). x ≢ z) (λ z ne e. ne (sym (same_is x y same) ∙ e)) ys (pairs_after (λ (a b : Item). a ≢ b) y ys up) in
      omega (arith, count-cons (same_item x) y ys, ap one_if same, none_of x ys others)
  | inr apart ↦ omega (arith, count-cons (same_item x) y ys, ap one_if apart, at_most_once ys (pairs_tail (λ (a b : Item). a ≢ b) y ys up) x)
]

pub once_from : (xs : List Item) → AllPairs (λ (x y : Item). x ≢ y) xs → NoneTwice xs
unfolding NoneTwice
once_from xs up = at_most_once xs up

-- what passes at two places is counted twice
pub twice : (p : Item → Bool) (xs : List Item) (i j : ℕ) (d : Item) → i < j → j < length xs → p (get_or xs i d) ≡ true → p (get_or xs j d) ≡ true
    → 2 ≤ count_by p xs
twice p xs i j d lt long first second =
    let f : Item → ℕ = λ x. one_if (p x) in
    let front : get_or (take j xs) i d ≡ get_or xs i d = get_or-take j xs i d lt in
    let zero_on : j + 0 ≡ j = omega arith in
    let back : get_or (drop j xs) 0 d ≡ get_or xs j d = get_or-drop j xs 0 d ∙ ap (λ (k : ℕ). get_or xs k d) zero_on in
    omega (
      arith,
      sum_by-take-drop f xs j,
      get_or-le-sum_by f (take j xs) i d (omega (arith, length-take-le j xs (omega arith))),
      get_or-le-sum_by f (drop j xs) 0 d (omega (arith, length-drop j xs)),
      ap f front ∙ ap one_if first,
      ap f back ∙ ap one_if second,
    )

pub pairs_from : (xs : List Item) → NoneTwice xs → AllPairs (λ (x y : Item). x ≢ y) xs
unfolding NoneTwice
pairs_from xs once i j d lt long e =
    absurd (omega (
      arith,
      once (get_or xs i d),
      twice (same_item (get_or xs i d)) xs i j d lt long (is_same (get_or xs i d) (get_or xs i d) refl) (is_same (get_or xs i d) (get_or xs j d) e),
    ))

-- ---- documents have neither an entry twice nor too many

pub never_crowded : (next n : ℕ) (xs : List Item) → IsCrowded n xs → MakeDocs next xs → ⊥
never_crowded next n xs (inl many) make = omega (arith, many, make.few n)
never_crowded next n xs (inr (x, is, two)) make = omega (arith, two, at_most_once xs make.once x)
