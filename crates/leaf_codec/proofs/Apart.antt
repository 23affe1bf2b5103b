-- Items of which no two have one number stand once each.
use Rattle.std.proofs.Common.{◌≡◌, ◌≢◌, ℕ, ◌≤◌, Bool, true, false, eqb, List, [], ◌∷◌, cond, ap, arith, ◌&&◌, inl, inr, refl}
use Rattle.std.specs.List.{count_by}
use Rattle.std.proofs.lemmas.Bool.{cases_Bool, eqb-true}
use Rattle.point_codec.specs.Points.{Item}
use Rattle.leaf_codec.specs.LeafOrder.{same_item, NoneTwice}
use Rattle.leaf_codec.proofs.OrderLemmas.{count-cons}

-- none of the items has number n
abbrev pub Lacks : ℕ → List Item → Type 0
Lacks n [] = Unit {0}
Lacks n (x ∷ xs) = (x.doc ≢ n) × Lacks n xs

-- no two items have one number
abbrev pub Apart : List Item → Type 0
Apart [] = Unit {0}
Apart (x ∷ xs) = Lacks x.doc xs × Apart xs

first_of : (a b : Bool) → (a && b) ≡ true → a ≡ true
first_of true b e = refl
first_of false b e = e

number_same : (x y : Item) → same_item x y ≡ true → x.doc ≡ y.doc
number_same x y e = eqb-true x.doc y.doc (first_of (eqb x.doc y.doc) _ e)

abbrev one_if : Bool → ℕ
one_if b = cond b 1 0

none_of : (x : Item) (n : ℕ) (xs : List Item) → x.doc ≡ n → Lacks n xs → count_by (same_item x) xs ≡ 0
none_of x n [] e h = refl
none_of x n (y ∷ xs) e h = elim (cases_Bool (same_item x y)) [
  | inl same ↦ absurd (h.0 (omega (arith, number_same x y same, e)))
  | inr apart ↦ omega (arith, count-cons (same_item x) y xs, ap one_if apart, none_of x n xs e h.1)
]

at_most_once : (xs : List Item) → Apart xs → (x : Item) → count_by (same_item x) xs ≤ 1
at_most_once [] h x = omega arith
at_most_once (y ∷ xs) h x = elim (cases_Bool (same_item x y)) [
  | inl same ↦ omega (arith, count-cons (same_item x) y xs, ap one_if same, none_of x y.doc xs (number_same x y same) h.0)
  | inr apart ↦ omega (arith, count-cons (same_item x) y xs, ap one_if apart, at_most_once xs h.1 x)
]

pub none_twice : (xs : List Item) → Apart xs → NoneTwice xs
unfolding NoneTwice
none_twice xs h = at_most_once xs h
