-- Sums of squares, dimension by dimension.
use Rattle.std.proofs.Common.{◌≡◌, ℕ, ◌+◌, ◌≤◌, ◌<◌, true, zero, suc, List, [], ◌∷◌, length, drop}
use Rattle.std.proofs.Common.{get_or, int_le, ◌&&◌, ℤ, pos, ◌-ℤ◌, unsigned_abs, refl, arith, add-one}
use Rattle.std.proofs.Math.Nat.{mul-le-mul}
use Rattle.std.proofs.Math.Seq.{drop-cons}
use Rattle.std.proofs.lemmas.Int.{ints}
use Rattle.std.specs.Int.{int_max, int_min}
use Rattle.point_codec.specs.Points.{Region, dist2, square, all_le, in_box}
use Rattle.point_codec.specs.Cells.{moved_between, nearest_in}
use Rattle.point_codec.proofs.Corners.{both_true}

-- the dimensions from i on: dimension i, and those after it
pub dist2_dropped : (p q : List ℤ) (i : ℕ) → i < length p → i < length q
    → dist2 (drop i p) (drop i q) ≡ square (get_or p i (pos 0) -ℤ get_or q i (pos 0)) + dist2 (drop (i + 1) p) (drop (i + 1) q)
dist2_dropped p q i h k = rw (drop-cons p i (pos 0), drop-cons q i (pos 0), add-one) refl

pub all_le_dropped : (p q : List ℤ) (i : ℕ) → i < length p → i < length q
    → all_le (drop i p) (drop i q) ≡ (int_le (get_or p i (pos 0)) (get_or q i (pos 0)) && all_le (drop (i + 1) p) (drop (i + 1) q))
all_le_dropped p q i h k = rw (drop-cons p i (pos 0), drop-cons q i (pos 0), add-one) refl

-- ---- the point of a cell that is nearest to p

-- the dimensions from i on: dimension i, and those after it
pub nearest_dropped : (l h p : List ℤ) (i : ℕ) → i < length l → i < length h → i < length p
    → dist2 (drop i p) (moved_between (drop i l) (drop i h) (drop i p))
    ≡ square (get_or p i (pos 0) -ℤ int_max (get_or l i (pos 0)) (int_min (get_or p i (pos 0)) (get_or h i (pos 0))))
    + dist2 (drop (i + 1) p) (moved_between (drop (i + 1) l) (drop (i + 1) h) (drop (i + 1) p))
nearest_dropped l h p i a b c = rw (drop-cons l i (pos 0), drop-cons h i (pos 0), drop-cons p i (pos 0), add-one) refl

pub between_here : (l h x : ℤ) → int_le l h ≡ true → (int_le l (int_max l (int_min x h)) ≡ true) × (int_le (int_max l (int_min x h)) h ≡ true)
between_here l h x e = (grind (arith, ints), grind (arith, ints))

moved_is_between : (l h p : List ℤ) → all_le l h ≡ true → length p ≡ length l
    → (all_le l (moved_between l h p) ≡ true) × (all_le (moved_between l h p) h ≡ true)
moved_is_between [] [] p e k = (refl, refl)
moved_is_between [] (y ∷ ys) p e k = cc
moved_is_between (x ∷ xs) [] p e k = cc
moved_is_between (x ∷ xs) (y ∷ ys) [] e k = absurd (omega arith)
moved_is_between (x ∷ xs) (y ∷ ys) (z ∷ zs) e k =
    let first = both_true (int_le x y) (all_le xs ys) e in
    let k' : length zs ≡ length xs = omega arith in
    let here = between_here x y z first.0 in
    let rest = moved_is_between xs ys zs first.1 k' in
    (rw (here.0, rest.0) refl, rw (here.1, rest.1) refl)

pub nearest_is_in : (r : Region) (p : List ℤ) → all_le r.lo r.hi ≡ true → length p ≡ length r.lo → in_box r (nearest_in r p) ≡ true
nearest_is_in r p e k = let between = moved_is_between r.lo r.hi p e k in rw (between.0, between.1) refl

pub closer_here : (l h x q : ℤ) → int_le l q ≡ true → int_le q h ≡ true → unsigned_abs (x -ℤ int_max l (int_min x h)) ≤ unsigned_abs (x -ℤ q)
closer_here l h x q a b = grind (arith, ints)

closer : (l h p q : List ℤ) → all_le l q ≡ true → all_le q h ≡ true → dist2 p (moved_between l h p) ≤ dist2 p q
closer l h [] q a b = omega arith
closer [] h (x ∷ xs) q a b = omega arith
closer (y ∷ ys) h (x ∷ xs) [] a b = cc
closer (y ∷ ys) [] (x ∷ xs) (v ∷ vs) a b = cc
closer (y ∷ ys) (z ∷ zs) (x ∷ xs) (v ∷ vs) a b =
    let first = both_true (int_le y v) (all_le ys vs) a in
    let next = both_true (int_le v z) (all_le vs zs) b in
    let here = closer_here y z x v first.0 next.0 in
    let squares = mul-le-mul here here in
    let rest = closer ys zs xs vs first.1 next.1 in
    omega (arith, squares, rest)

pub nearest_is_least : (r : Region) (p q : List ℤ) → in_box r q ≡ true → dist2 p (nearest_in r p) ≤ dist2 p q
nearest_is_least r p q h = let at = both_true (all_le r.lo q) (all_le q r.hi) h in closer r.lo r.hi p q at.0 at.1

pub dist2_done : (p q : List ℤ) (i : ℕ) → length p ≤ i → dist2 (drop i p) q ≡ 0
dist2_done [] q zero h = refl
dist2_done [] q (suc i) h = refl
dist2_done (x ∷ xs) q zero h = absurd (omega arith)
dist2_done (x ∷ xs) q (suc i) h = let h' : length xs ≤ i = omega arith in dist2_done xs q i h'
