-- The cells of a canonical tree: each is one of D dimensions, and within its path cell.
use Rattle.std.proofs.Common.{◌≡◌, ℕ, zero, suc, ◌≤◌, true, List, [], ◌∷◌, ◌++◌, length, map, get_or, replicate}
use Rattle.std.proofs.Common.{ℤ, pos, negsuc, ◌≤ℤ◌, int_le, w32, FitsSigned, refl, sym, ◌∙◌, subst, arith}
use Rattle.std.specs.List.{All}
use Rattle.std.proofs.lemmas.Int.{ints}
use Rattle.std.proofs.lemmas.List.{length-set, take_at, drop_at}
use Rattle.std.proofs.lemmas.List.Elements.{All-nil, All-cons, All-head, All-tail, All-map, All-weaker, All-take, All-drop}
use Rattle.point_codec.specs.Points.{Item, Region, all_le, in_box}
use Rattle.point_codec.specs.Cells.{IsLeastCell, within, left_of, right_of}
use Rattle.point_codec.proofs.Corners.{both_true, in_box-corners, left_keeps, right_keeps}
use Rattle.leaf_codec.specs.Leaves.{IsPoint}
use Rattle.inner_pack.specs.Trees.{IsCell, IsInCell, HasCells}
use Rattle.bkd_build.specs.Extents.{coordinate}
use Rattle.bkd_build.specs.Canon.{KdTree, Leaf, Split, entries_of, index_tree_of, IsCanonSplit, IsCanon}
use Rattle.bkd_build.proofs.ExtentLemmas.{all_le-length, least_inside}
use Rattle.bkd_build.proofs.Shapes.{all_points}
use Rattle.bkd_build.proofs.Sides.{lefts_below}

-- ---- the least cell round points has their dimensions, and coordinates of 32 bits

abbrev lowest : ℤ
lowest = negsuc 2147483647

abbrev highest : ℤ
highest = pos 2147483647

low_here : (x : ℤ) → FitsSigned w32 x → int_le lowest x ≡ true
low_here x h = grind (arith, ints)

high_here : (x : ℤ) → FitsSigned w32 x → int_le x highest ≡ true
high_here x h = grind (arith, ints)

fits_here : (x y : ℤ) → int_le lowest x ≡ true → int_le x y ≡ true → int_le y highest ≡ true → FitsSigned w32 x
fits_here x y h k m = omega (arith, ints)

above_lowest : (p : List ℤ) → All (λ (x : ℤ). FitsSigned w32 x) p → all_le (replicate (length p) lowest) p ≡ true
above_lowest [] h = refl
above_lowest (x ∷ xs) h =
    rw (low_here x (All-head (λ (y : ℤ). FitsSigned w32 y) x xs h), above_lowest xs (All-tail (λ (y : ℤ). FitsSigned w32 y) x xs h)) refl

below_highest : (p : List ℤ) → All (λ (x : ℤ). FitsSigned w32 x) p → all_le p (replicate (length p) highest) ≡ true
below_highest [] h = refl
below_highest (x ∷ xs) h =
    rw (high_here x (All-head (λ (y : ℤ). FitsSigned w32 y) x xs h), below_highest xs (All-tail (λ (y : ℤ). FitsSigned w32 y) x xs h)) refl

-- between two points of 32 bits
all_fit_low : (n : ℕ) (a b : List ℤ) → all_le (replicate n lowest) a ≡ true → all_le a b ≡ true → all_le b (replicate n highest) ≡ true
    → All (λ (x : ℤ). FitsSigned w32 x) a
all_fit_low n [] b h k m = All-nil (λ (x : ℤ). FitsSigned w32 x)
all_fit_low n (x ∷ xs) [] h k m = cc
all_fit_low zero (x ∷ xs) (y ∷ ys) h k m = cc
all_fit_low (suc n) (x ∷ xs) (y ∷ ys) h k m =
    let low = both_true (int_le lowest x) (all_le (replicate n lowest) xs) h in
    let mid = both_true (int_le x y) (all_le xs ys) k in
    let high = both_true (int_le y highest) (all_le ys (replicate n highest)) m in
    All-cons (λ (z : ℤ). FitsSigned w32 z) x xs (fits_here x y low.0 mid.0 high.0) (all_fit_low n xs ys low.1 mid.1 high.1)

fits_there : (x y : ℤ) → int_le lowest x ≡ true → int_le x y ≡ true → int_le y highest ≡ true → FitsSigned w32 y
fits_there x y h k m = omega (arith, ints)

all_fit_high : (n : ℕ) (a b : List ℤ) → all_le (replicate n lowest) a ≡ true → all_le a b ≡ true → all_le b (replicate n highest) ≡ true
    → All (λ (x : ℤ). FitsSigned w32 x) b
all_fit_high n a [] h k m = All-nil (λ (x : ℤ). FitsSigned w32 x)
all_fit_high n [] (y ∷ ys) h k m = cc
all_fit_high zero (x ∷ xs) (y ∷ ys) h k m = cc
all_fit_high (suc n) (x ∷ xs) (y ∷ ys) h k m =
    let low = both_true (int_le lowest x) (all_le (replicate n lowest) xs) h in
    let mid = both_true (int_le x y) (all_le xs ys) k in
    let high = both_true (int_le y highest) (all_le ys (replicate n highest)) m in
    All-cons (λ (z : ℤ). FitsSigned w32 z) y ys (fits_there x y low.0 mid.0 high.0) (all_fit_high n xs ys low.1 mid.1 high.1)

-- the cell of all points of D dimensions
abbrev all_space : ℕ → Region
all_space D = record { lo = replicate D lowest; hi = replicate D highest }

in_space : (D : ℕ) (p : List ℤ) → IsPoint D p → in_box (all_space D) p ≡ true
in_space D p h =
    let low : all_le (replicate D lowest) p ≡ true = subst (λ (n : ℕ). all_le (replicate n lowest) p ≡ true) h.dims (above_lowest p h.fits) in
    let high : all_le p (replicate D highest) ≡ true = subst (λ (n : ℕ). all_le p (replicate n highest) ≡ true) h.dims (below_highest p h.fits) in
    rw (low, high) refl

pub cell_round_points : (D : ℕ) (xs : List Item) (r : Region) → 1 ≤ length xs → All (λ (x : Item). IsPoint D x.at) xs
    → IsLeastCell (map (λ (x : Item). x.at) xs) r → IsCell D r
cell_round_points D [] r some points h = absurd (omega arith)
cell_round_points D (x ∷ xs) r some points h =
    let here : in_box r x.at ≡ true = All-head (λ (p : List ℤ). in_box r p ≡ true) x.at (map (λ (y : Item). y.at) xs) h.holds in
    let long : length x.at ≡ D = (All-head (λ (y : Item). IsPoint D y.at) x xs points).dims in
    let ends = both_true (all_le r.lo x.at) (all_le x.at r.hi) here in
    let space : within r (all_space D) ≡ true =
    h.least (all_space D)
    (All-map (λ (p : List ℤ). in_box (all_space D) p ≡ true) (λ (y : Item). y.at) (x ∷ xs)
    (All-weaker (λ (y : Item). IsPoint D y.at) (λ (y : Item). in_box (all_space D) y.at ≡ true) (λ y is. in_space D y.at is) (x ∷ xs) points)) in
    let wide = both_true (all_le (replicate D lowest) r.lo) (all_le r.hi (replicate D highest)) space in
    let ordered : all_le r.lo r.hi ≡ true = in_box-corners r x.at here in
    record {
      lo_dims = all_le-length r.lo x.at ends.0 ∙ long;
      hi_dims = sym (all_le-length x.at r.hi ends.1) ∙ long;
      ordered = ordered;
      lo_fits = all_fit_low D r.lo r.hi wide.0 ordered wide.1;
      hi_fits = all_fit_high D r.lo r.hi wide.0 ordered wide.1;
    }

-- ---- a split value lies in the cell of its node, and each half in its part of it

left_below : (D leaf_size d : ℕ) (x : ℤ) (ls rs : List Item) → IsCanonSplit D leaf_size d x ls rs → All (λ (y : Item). coordinate d y ≤ℤ x) ls
left_below D leaf_size d x ls rs h = lefts_below d x ls rs h.apart h.value

-- all items are in the cell
abbrev AreIn : Region → List Item → Type 0
AreIn r items = All (λ (y : Item). in_box r y.at ≡ true) items

in_cell : (D leaf_size d : ℕ) (x : ℤ) (ls rs : List Item) (path : Region) → IsCanonSplit D leaf_size d x ls rs → length path.lo ≡ D → AreIn path rs
    → IsInCell D path d x
in_cell D leaf_size d x ls rs path h lo inside =
    let ends = least_inside d x path rs (omega (arith, lo, h.widest.dimension)) inside h.value in
    record { dimension = h.widest.dimension; from = ends.0; to = ends.1 }

test_true : (x y : ℤ) → x ≤ℤ y → int_le x y ≡ true
test_true x y h = grind (arith, ints)

lefts_in : (D leaf_size d : ℕ) (x : ℤ) (ls rs : List Item) (path : Region) → IsCanonSplit D leaf_size d x ls rs → IsInCell D path d x → length path.lo ≡ D
    → length path.hi ≡ D
    → All (λ (y : Item). IsPoint D y.at) ls → AreIn path ls → AreIn (left_of path d x) ls
lefts_in D leaf_size d x ls rs path h cell lo hi points inside k e lt =
    let y : Item = get_or ls k e in
    let is : IsPoint D y.at = points k e lt in
    let keeps = left_keeps path d x (lo ∙ sym hi) (omega (arith, hi, cell.dimension)) cell.from cell.to y.at (is.dims ∙ sym hi) in
    keeps ∙ rw (inside k e lt, test_true (coordinate d y) x (left_below D leaf_size d x ls rs h k e lt)) refl

rights_in : (D leaf_size d : ℕ) (x : ℤ) (ls rs : List Item) (path : Region) → IsCanonSplit D leaf_size d x ls rs → IsInCell D path d x → length path.lo ≡ D
    → length path.hi ≡ D
    → All (λ (y : Item). IsPoint D y.at) rs → AreIn path rs → AreIn (right_of path d x) rs
rights_in D leaf_size d x ls rs path h cell lo hi points inside k e lt =
    let y : Item = get_or rs k e in
    let is : IsPoint D y.at = points k e lt in
    let keeps = right_keeps path d x (lo ∙ sym hi) (omega (arith, hi, cell.dimension)) cell.from cell.to y.at (is.dims ∙ sym hi) in
    keeps ∙ rw (inside k e lt, test_true x (coordinate d y) (h.value.bound k e lt)) refl

-- the items of a part
all_front : (P : Item → Type 0) (xs ys : List Item) → All P (xs ++ ys) → All P xs
all_front P xs ys all = subst (λ (zs : List Item). All P zs) (take_at xs ys (length xs) refl) (All-take P (length xs) (xs ++ ys) all)

all_back : (P : Item → Type 0) (xs ys : List Item) → All P (xs ++ ys) → All P ys
all_back P xs ys all = subst (λ (zs : List Item). All P zs) (drop_at xs ys (length xs) refl) (All-drop P (length xs) (xs ++ ys) all)

pub cells_lie : (D leaf_size : ℕ) (path : Region) (t : KdTree) → IsCanon D leaf_size t → length path.lo ≡ D → length path.hi ≡ D → AreIn path (entries_of t)
    → HasCells D path (index_tree_of D t)
cells_lie D leaf_size path (Leaf items own) h lo hi inside = (
  cell_round_points D items own h.entries.some h.entries.points h.cell,
  h.cell.least path (All-map (λ (p : List ℤ). in_box path p ≡ true) (λ (y : Item). y.at) items inside),
)
cells_lie D leaf_size path (Split d x l r) h lo hi inside =
    let ls : List Item = entries_of l in
    let rs : List Item = entries_of r in
    let left_points = all_points D leaf_size l h.1 in
    let right_points = all_points D leaf_size r h.2 in
    let left = all_front (λ (y : Item). in_box path y.at ≡ true) ls rs inside in
    let right = all_back (λ (y : Item). in_box path y.at ≡ true) ls rs inside in
    let cell : IsInCell D path d x = in_cell D leaf_size d x ls rs path h.0 lo right in (
      cell,
      cells_lie D leaf_size (left_of path d x) l h.1 lo (length-set path.hi d x ∙ hi) (lefts_in D leaf_size d x ls rs path h.0 cell lo hi left_points left),
      cells_lie D leaf_size (right_of path d x) r h.2 (length-set path.lo d x ∙ lo) hi (rights_in D leaf_size d x ls rs path h.0 cell lo hi right_points right),
    )
