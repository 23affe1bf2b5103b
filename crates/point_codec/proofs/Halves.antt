-- The halves of a cell lie within it, and what lies within a cell lies within each cell round that.
use Rattle.std.proofs.Common.{◌≡◌, ℕ, zero, suc, true, List, [], ◌∷◌, get_or, set, ℤ, pos, ◌≤ℤ◌, refl, arith}
use Rattle.std.proofs.lemmas.Int.{ints}
use Rattle.point_codec.specs.Points.{Region, all_le}
use Rattle.point_codec.specs.Cells.{within, left_of, right_of}
use Rattle.point_codec.proofs.Corners.{both_true, all_le-refl, all_le-trans}

pub set_below : (h : List ℤ) (d : ℕ) (x : ℤ) → x ≤ℤ get_or h d (pos 0) → all_le (set h d x) h ≡ true
set_below [] d x le = refl
set_below (y ∷ ys) zero x le = rw (all_le-refl ys) (grind (arith, ints))
set_below (y ∷ ys) (suc d) x le = rw (set_below ys d x le) (grind (arith, ints))

set_above : (h : List ℤ) (d : ℕ) (x : ℤ) → get_or h d (pos 0) ≤ℤ x → all_le h (set h d x) ≡ true
set_above [] d x le = refl
set_above (y ∷ ys) zero x le = rw (all_le-refl ys) (grind (arith, ints))
set_above (y ∷ ys) (suc d) x le = rw (set_above ys d x le) (grind (arith, ints))

pub left_within : (path : Region) (d : ℕ) (x : ℤ) → x ≤ℤ get_or path.hi d (pos 0) → within (left_of path d x) path ≡ true
left_within path d x le = rw (all_le-refl path.lo, set_below path.hi d x le) refl

pub right_within : (path : Region) (d : ℕ) (x : ℤ) → get_or path.lo d (pos 0) ≤ℤ x → within (right_of path d x) path ≡ true
right_within path d x le = rw (set_above path.lo d x le, all_le-refl path.hi) refl

pub within_self : (cell : Region) → within cell cell ≡ true
within_self cell = rw (all_le-refl cell.lo, all_le-refl cell.hi) refl

pub within_trans : (inner mid outer : Region) → within inner mid ≡ true → within mid outer ≡ true → within inner outer ≡ true
within_trans inner mid outer h k =
    let near = both_true (all_le mid.lo inner.lo) (all_le inner.hi mid.hi) h in
    let far = both_true (all_le outer.lo mid.lo) (all_le mid.hi outer.hi) k in
    rw (all_le-trans outer.lo mid.lo inner.lo far.0 near.0, all_le-trans inner.hi mid.hi outer.hi near.1 far.1) refl
