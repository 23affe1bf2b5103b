-- The order of corners, dimension by dimension.
use Rattle.std.proofs.Common.{◌≡◌, ℕ, zero, suc, ◌+◌, ◌<◌, Bool, true, false, ◌&&◌, ◌||◌, List, [], ◌∷◌, ◌++◌}
use Rattle.std.proofs.Common.{length, take, drop, get_or, set, ℤ, pos, ◌≤ℤ◌, int_le, refl, ap, ◌∙◌, arith, add-one}
use Rattle.std.proofs.lemmas.Int.{ints}
use Rattle.std.specs.Int.{int_max, int_min}
use Rattle.point_codec.specs.Points.{Region, all_le, in_box}
use Rattle.point_codec.specs.Cells.{left_of, right_of, by_dimension}

pub both_true : (a b : Bool) → (a && b) ≡ true → (a ≡ true) × (b ≡ true)
both_true true b h = (refl, h)
both_true false b h = cc

pub all_le-refl : (p : List ℤ) → all_le p p ≡ true
all_le-refl [] = refl
all_le-refl (x ∷ xs) = rw (all_le-refl xs) (grind (arith, ints))

pub all_le-trans : (a b c : List ℤ) → all_le a b ≡ true → all_le b c ≡ true → all_le a c ≡ true
all_le-trans [] [] c h k = k
all_le-trans [] (y ∷ ys) c h k = cc
all_le-trans (x ∷ xs) [] c h k = cc
all_le-trans (x ∷ xs) (y ∷ ys) [] h k = cc
all_le-trans (x ∷ xs) (y ∷ ys) (z ∷ zs) h k =
    let first = both_true (int_le x y) (all_le xs ys) h in
    let next = both_true (int_le y z) (all_le ys zs) k in
    let rest : all_le xs zs ≡ true = all_le-trans xs ys zs first.1 next.1 in
    let xy : int_le x y ≡ true = first.0 in
    let yz : int_le y z ≡ true = next.0 in
    rw rest (grind (arith, ints))

same_number : (x y : ℤ) → int_le x y ≡ true → int_le y x ≡ true → x ≡ y
same_number x y h k = grind (arith, ints)

pub all_le-antisym : (a b : List ℤ) → all_le a b ≡ true → all_le b a ≡ true → a ≡ b
all_le-antisym [] [] h k = refl
all_le-antisym [] (y ∷ ys) h k = cc
all_le-antisym (x ∷ xs) [] h k = cc
all_le-antisym (x ∷ xs) (y ∷ ys) h k =
    let first = both_true (int_le x y) (all_le xs ys) h in
    let next = both_true (int_le y x) (all_le ys xs) k in
    let here = same_number x y first.0 next.0 in
    let rest = all_le-antisym xs ys first.1 next.1 in
    λ i. here i ∷ rest i

number_at : (x y : ℤ) → int_le x y ≡ true → x ≤ℤ y
number_at x y h = omega (arith, ints)

-- what is so in each dimension is so in this one
pub all_le_at : (a b : List ℤ) (i : ℕ) → all_le a b ≡ true → i < length a → get_or a i (pos 0) ≤ℤ get_or b i (pos 0)
all_le_at [] b i h k = absurd (omega arith)
all_le_at (x ∷ xs) [] i h k = cc
all_le_at (x ∷ xs) (y ∷ ys) zero h k = number_at x y (both_true (int_le x y) (all_le xs ys) h).0
all_le_at (x ∷ xs) (y ∷ ys) (suc i) h k = let k' : i < length xs = omega arith in all_le_at xs ys i (both_true (int_le x y) (all_le xs ys) h).1 k'

-- the corners of a cell that has a point
pub in_box-corners : (r : Region) (p : List ℤ) → in_box r p ≡ true → all_le r.lo r.hi ≡ true
in_box-corners r p h =
    let at = both_true (all_le r.lo p) (all_le p r.hi) h in
    all_le-trans r.lo p r.hi at.0 at.1

-- ---- the least and the greatest in each dimension

pub all_le_least : (a b : List ℤ) → length a ≡ length b → (all_le (by_dimension int_min a b) a ≡ true) × (all_le (by_dimension int_min a b) b ≡ true)
all_le_least [] [] h = (refl, refl)
all_le_least [] (y ∷ ys) h = absurd (omega arith)
all_le_least (x ∷ xs) [] h = absurd (omega arith)
all_le_least (x ∷ xs) (y ∷ ys) h =
    let h' : length xs ≡ length ys = omega arith in
    let rest = all_le_least xs ys h' in
    (rw rest.0 (grind (arith, ints)), rw rest.1 (grind (arith, ints)))

pub all_le_greatest : (a b : List ℤ) → length a ≡ length b → (all_le a (by_dimension int_max a b) ≡ true) × (all_le b (by_dimension int_max a b) ≡ true)
all_le_greatest [] [] h = (refl, refl)
all_le_greatest [] (y ∷ ys) h = absurd (omega arith)
all_le_greatest (x ∷ xs) [] h = absurd (omega arith)
all_le_greatest (x ∷ xs) (y ∷ ys) h =
    let h' : length xs ≡ length ys = omega arith in
    let rest = all_le_greatest xs ys h' in
    (rw rest.0 (grind (arith, ints)), rw rest.1 (grind (arith, ints)))

below_both : (z x y : ℤ) → int_le z x ≡ true → int_le z y ≡ true → int_le z (int_min x y) ≡ true
below_both z x y h k = grind (arith, ints)

above_both : (z x y : ℤ) → int_le x z ≡ true → int_le y z ≡ true → int_le (int_max x y) z ≡ true
above_both z x y h k = grind (arith, ints)

pub all_le_of_least : (c a b : List ℤ) → all_le c a ≡ true → all_le c b ≡ true → all_le c (by_dimension int_min a b) ≡ true
all_le_of_least [] [] b h k = refl
all_le_of_least [] (x ∷ xs) b h k = cc
all_le_of_least (z ∷ zs) [] b h k = cc
all_le_of_least (z ∷ zs) (x ∷ xs) [] h k = cc
all_le_of_least (z ∷ zs) (x ∷ xs) (y ∷ ys) h k =
    let first = both_true (int_le z x) (all_le zs xs) h in
    let next = both_true (int_le z y) (all_le zs ys) k in
    rw (all_le_of_least zs xs ys first.1 next.1, below_both z x y first.0 next.0) refl

pub all_le_of_greatest : (c a b : List ℤ) → all_le a c ≡ true → all_le b c ≡ true → all_le (by_dimension int_max a b) c ≡ true
all_le_of_greatest c [] b h k = h
all_le_of_greatest [] (x ∷ xs) b h k = cc
all_le_of_greatest (z ∷ zs) (x ∷ xs) [] h k = cc
all_le_of_greatest (z ∷ zs) (x ∷ xs) (y ∷ ys) h k =
    let first = both_true (int_le x z) (all_le xs zs) h in
    let next = both_true (int_le y z) (all_le ys zs) k in
    rw (all_le_of_greatest zs xs ys first.1 next.1, above_both z x y first.0 next.0) refl

-- the dimensions done, and those left: one more is done
pub by_dimension_step : (f : ℤ → ℤ → ℤ) (a b : List ℤ) (i : ℕ) → i < length a → i < length b
    → take (i + 1) (set a i (f (get_or a i (pos 0)) (get_or b i (pos 0))))
    ++ by_dimension f (drop (i + 1) (set a i (f (get_or a i (pos 0)) (get_or b i (pos 0))))) (drop (i + 1) b)
    ≡ take i a ++ by_dimension f (drop i a) (drop i b)
by_dimension_step f [] b i h k = absurd (omega arith)
by_dimension_step f (x ∷ xs) [] i h k = absurd (omega arith)
by_dimension_step f (x ∷ xs) (y ∷ ys) zero h k = refl
by_dimension_step f (x ∷ xs) (y ∷ ys) (suc i) h k =
    let h' : i < length xs = omega arith in
    let k' : i < length ys = omega arith in
    rw add-one (ap (λ zs. x ∷ zs) (simp add-one at (by_dimension_step f xs ys i h' k')))

-- ---- a corner moved in one dimension

pub both_assoc : (a b c : Bool) → (a && (b && c)) ≡ ((a && b) && c)
both_assoc true b c = refl
both_assoc false b c = refl

lower_here : (x y at : ℤ) (rest : Bool) → at ≤ℤ y → (int_le x at && rest) ≡ ((int_le x y && rest) && int_le x at)
lower_here x y at rest h = grind (arith, ints)

higher_here : (x y at : ℤ) (rest : Bool) → y ≤ℤ at → (int_le at x && rest) ≡ ((int_le y x && rest) && int_le at x)
higher_here x y at rest h = grind (arith, ints)

-- below a corner that was moved down, and above one that was moved up
all_le-lowered : (p h : List ℤ) (i : ℕ) (at : ℤ) → length p ≡ length h → i < length h → at ≤ℤ get_or h i (pos 0)
    → all_le p (set h i at) ≡ (all_le p h && int_le (get_or p i (pos 0)) at)
all_le-lowered p [] i at e k to = absurd (omega arith)
all_le-lowered [] (y ∷ ys) i at e k to = absurd (omega arith)
all_le-lowered (x ∷ xs) (y ∷ ys) zero at e k to = lower_here x y at (all_le xs ys) to
all_le-lowered (x ∷ xs) (y ∷ ys) (suc i) at e k to =
    let e' : length xs ≡ length ys = omega arith in
    let k' : i < length ys = omega arith in
    rw (all_le-lowered xs ys i at e' k' to) (both_assoc (int_le x y) (all_le xs ys) (int_le (get_or xs i (pos 0)) at))

all_le-raised : (p l : List ℤ) (i : ℕ) (at : ℤ) → length p ≡ length l → i < length l → get_or l i (pos 0) ≤ℤ at
    → all_le (set l i at) p ≡ (all_le l p && int_le at (get_or p i (pos 0)))
all_le-raised p [] i at e k from = absurd (omega arith)
all_le-raised [] (y ∷ ys) i at e k from = absurd (omega arith)
all_le-raised (x ∷ xs) (y ∷ ys) zero at e k from = higher_here x y at (all_le ys xs) from
all_le-raised (x ∷ xs) (y ∷ ys) (suc i) at e k from =
    let e' : length xs ≡ length ys = omega arith in
    let k' : i < length ys = omega arith in
    rw (all_le-raised xs ys i at e' k' from) (both_assoc (int_le y x) (all_le ys xs) (int_le at (get_or xs i (pos 0))))

number_test : (x y : ℤ) → x ≤ℤ y → int_le x y ≡ true
number_test x y h = grind (arith, ints)

-- ---- a cell cut in two

module _ (r : Region) (dim : ℕ) (at : ℤ) (same : length r.lo ≡ length r.hi) (inside : dim < length r.hi) (from : get_or r.lo dim (pos 0) ≤ℤ at)
    (to : at ≤ℤ get_or r.hi dim (pos 0)) where
  pub left_ordered : all_le r.lo r.hi ≡ true → all_le r.lo (set r.hi dim at) ≡ true
  left_ordered h = rw (all_le-lowered r.lo r.hi dim at same inside to) (rw (h, number_test (get_or r.lo dim (pos 0)) at from) refl)

  pub right_ordered : all_le r.lo r.hi ≡ true → all_le (set r.lo dim at) r.hi ≡ true
  right_ordered h =
      let same' : length r.hi ≡ length r.lo = omega arith in
      let inside' : dim < length r.lo = omega arith in
      rw (all_le-raised r.hi r.lo dim at same' inside' from) (rw (h, number_test at (get_or r.hi dim (pos 0)) to) refl)

  pub left_keeps : (p : List ℤ) → length p ≡ length r.hi → in_box (left_of r dim at) p ≡ (in_box r p && int_le (get_or p dim (pos 0)) at)
  left_keeps p e = rw (all_le-lowered p r.hi dim at e inside to) (both_assoc (all_le r.lo p) (all_le p r.hi) (int_le (get_or p dim (pos 0)) at))

  regroup : (a b c : Bool) → ((a && c) && b) ≡ ((a && b) && c)
  regroup true b c = grind arith
  regroup false b c = refl

  pub right_keeps : (p : List ℤ) → length p ≡ length r.hi → in_box (right_of r dim at) p ≡ (in_box r p && int_le at (get_or p dim (pos 0)))
  right_keeps p e =
      let e' : length p ≡ length r.lo = omega arith in
      let inside' : dim < length r.lo = omega arith in
      rw (all_le-raised p r.lo dim at e' inside' from) (regroup (all_le r.lo p) (all_le p r.hi) (int_le at (get_or p dim (pos 0))))

  either : (b : Bool) (x y : ℤ) → b ≡ ((b && int_le x y) || (b && int_le y x))
  either true x y = grind (arith, ints)
  either false x y = refl

  pub keeps_together : (p : List ℤ) → length p ≡ length r.hi → in_box r p ≡ (in_box (left_of r dim at) p || in_box (right_of r dim at) p)
  keeps_together p e = rw (left_keeps p e, right_keeps p e) (either (in_box r p) (get_or p dim (pos 0)) at)

  at_itself : (b : Bool) (x y : ℤ) → x ≡ y → ((b && int_le x y) ≡ b) × ((b && int_le y x) ≡ b)
  at_itself true x y h = (grind (arith, ints), grind (arith, ints))
  at_itself false x y h = (refl, refl)

  pub keeps_shared : (p : List ℤ) → length p ≡ length r.hi
      → get_or p dim (pos 0) ≡ at → (in_box (left_of r dim at) p ≡ in_box r p) × (in_box (right_of r dim at) p ≡ in_box r p)
  keeps_shared p e is =
      let both = at_itself (in_box r p) (get_or p dim (pos 0)) at is in
      (left_keeps p e ∙ both.0, right_keeps p e ∙ both.1)
