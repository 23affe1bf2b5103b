-- A cell within another is at least as far, so below a node that is too far no leaf is near.
use Rattle.std.proofs.Common.{◌≡◌, ℕ, ◌≤◌, true, false, List, [], ◌∷◌, Option, Some, None}
use Rattle.std.proofs.Common.{ℤ, ◌-ℤ◌, int_le, unsigned_abs, refl, arith}
use Rattle.std.proofs.Math.Nat.{mul-le-mul}
use Rattle.std.proofs.lemmas.Int.{ints}
use Rattle.std.proofs.lemmas.Bool.Decides.{nat_tests}
use Rattle.std.specs.Int.{int_max, int_min}
use Rattle.point_codec.specs.Points.{Region, all_le, dist2}
use Rattle.point_codec.specs.Cells.{left_of, right_of, moved_between, within}
use Rattle.point_codec.proofs.Corners.{both_true}
use Rattle.point_codec.proofs.Distances.{between_here, closer_here}
use Rattle.point_codec.proofs.Halves.{left_within, right_within, within_self, within_trans}
use Rattle.inner_pack.specs.Trees.{IndexTree, Leaf, Split, HasCells, cell_of}
use Rattle.nearest_query.specs.Segments.{is_within, near_leaves, least_dist2}

-- ---- their distances

le_through : (x y z : ℤ) → int_le x y ≡ true → int_le y z ≡ true → int_le x z ≡ true
le_through x y z h k = grind (arith, ints)

wider_here : (lo hi l h x : ℤ) → int_le lo l ≡ true → int_le h hi ≡ true → int_le l h ≡ true
    → unsigned_abs (x -ℤ int_max lo (int_min x hi)) ≤ unsigned_abs (x -ℤ int_max l (int_min x h))
wider_here lo hi l h x a b e =
    let q : ℤ = int_max l (int_min x h) in
    let between = between_here l h x e in
    closer_here lo hi x q (le_through lo l q a between.0) (le_through q h hi between.1 b)

wider : (lo hi l h p : List ℤ) → all_le lo l ≡ true → all_le h hi ≡ true → all_le l h ≡ true
    → dist2 p (moved_between lo hi p) ≤ dist2 p (moved_between l h p)
wider lo hi l h [] a b e = omega arith
wider [] hi l h (x ∷ xs) a b e = omega arith
wider (y ∷ ys) [] l h (x ∷ xs) a b e = omega arith
wider (y ∷ ys) (z ∷ zs) [] h (x ∷ xs) a b e = cc
wider (y ∷ ys) (z ∷ zs) (v ∷ vs) [] (x ∷ xs) a b e = cc
wider (y ∷ ys) (z ∷ zs) (v ∷ vs) (w ∷ ws) (x ∷ xs) a b e =
    let low = both_true (int_le y v) (all_le ys vs) a in
    let high = both_true (int_le w z) (all_le ws zs) b in
    let own = both_true (int_le v w) (all_le vs ws) e in
    let here = wider_here y z v w x low.0 high.0 own.0 in
    let squares = mul-le-mul here here in
    let rest = wider ys zs vs ws xs low.1 high.1 own.1 in
    omega (arith, squares, rest)

least_within : (outer inner : Region) (p : List ℤ) → within inner outer ≡ true → all_le inner.lo inner.hi ≡ true → least_dist2 p outer ≤ least_dist2 p inner
least_within outer inner p lies ordered =
    let corners = both_true (all_le outer.lo inner.lo) (all_le inner.hi outer.hi) lies in
    wider outer.lo outer.hi inner.lo inner.hi p corners.0 corners.1 ordered

-- ---- below a node that is too far

farther : (bound : Option ℕ) (d e : ℕ) → d ≤ e → is_within bound d ≡ false → is_within bound e ≡ false
farther None d e le h = h
farther (Some b) d e le h = grind (arith, nat_tests)

none_below : (D : ℕ) (at : List ℤ) (bound : Option ℕ) (top path : Region) (t : IndexTree) → HasCells D path t → within path top ≡ true
    → is_within bound (least_dist2 at top) ≡ false → 0 ≡ near_leaves at bound t
unfolding near_leaves
none_below D at bound top path (Leaf len own) cells lies far =
    let in_top : within own top ≡ true = within_trans own path top cells.1 lies in
    let own_far : is_within bound (least_dist2 at own) ≡ false =
    farther bound (least_dist2 at top) (least_dist2 at own) (least_within top own at in_top cells.0.ordered) far in
    rw own_far refl
none_below D at bound top path (Split d x l r) cells lies far =
    let a = none_below D at bound top (left_of path d x) l cells.1 (within_trans (left_of path d x) path top (left_within path d x cells.0.to) lies) far in
    let b = none_below D at bound top (right_of path d x) r cells.2 (within_trans (right_of path d x) path top (right_within path d x cells.0.from) lies) far in
    omega (arith, a, b)

pub none_near : (D : ℕ) (at : List ℤ) (bound : Option ℕ) (path : Region) (t : IndexTree) → HasCells D path t
    → is_within bound (least_dist2 at (cell_of path t)) ≡ false → 0 ≡ near_leaves at bound t
unfolding near_leaves
none_near D at bound path (Leaf len own) cells far = rw far refl
none_near D at bound path (Split d x l r) cells far =
    none_below D at bound path path (Split d x l r) cells (within_self path) far
