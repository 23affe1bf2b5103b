-- Edges in a box that is apart from a cell.
use Rattle.std.proofs.Common.{◌≡◌, ℤ, true, false, not, ◌&&◌, ⊎_elim, List, sym, ap, arith, get_or}
use Rattle.std.specs.Prelude.{◌<ℤ◌, int_lt, All}
use Rattle.std.proofs.lemmas.Bool.{or_cases, or_left, or_right, and_from}
use Rattle.std.proofs.lemmas.Int.{ints}
use Rattle.std.proofs.lemmas.List.Folds.{list_any_none}
use Rattle.point_codec.specs.Points.{Region}
use Rattle.ring_parity.specs.Edges.{EdgeEnds, x_of, y_of, are_beyond, is_disjoint, on, misses}
use Rattle.ring_parity.specs.Rings.{is_on_any, any_meets}
use Rattle.ring_parity.proofs.OneAnswer.{past}
use Rattle.ring_parity.proofs.Rays.{misses_disjoint}
use Rattle.edge_tree.specs.declared.outline.Bounds.{Bounds}
use Rattle.edge_tree.specs.Outlines.{IsBoxed, are_apart, is_apart}

below : (a b lo hi : ℤ) → a <ℤ lo → b <ℤ lo → are_beyond a b lo hi ≡ true
below a b lo hi p q =
    or_left (int_lt a lo && int_lt b lo) (int_lt hi a && int_lt hi b)
    (and_from (int_lt a lo) (int_lt b lo) (sym (omega (arith, ints))) (sym (omega (arith, ints))))

above : (a b lo hi : ℤ) → hi <ℤ a → hi <ℤ b → are_beyond a b lo hi ≡ true
above a b lo hi p q =
    or_right (int_lt a lo && int_lt b lo) (int_lt hi a && int_lt hi b)
    (and_from (int_lt hi a) (int_lt hi b) (sym (omega (arith, ints))) (sym (omega (arith, ints))))

across : (e : EdgeEnds) (cell : Region) → are_beyond (x_of e.0) (x_of e.1) (x_of cell.lo) (x_of cell.hi) ≡ true → is_disjoint e cell ≡ true
across e cell h = or_left (are_beyond (x_of e.0) (x_of e.1) (x_of cell.lo) (x_of cell.hi)) (are_beyond (y_of e.0) (y_of e.1) (y_of cell.lo) (y_of cell.hi)) h

along : (e : EdgeEnds) (cell : Region) → are_beyond (y_of e.0) (y_of e.1) (y_of cell.lo) (y_of cell.hi) ≡ true → is_disjoint e cell ≡ true
along e cell h = or_right (are_beyond (x_of e.0) (x_of e.1) (x_of cell.lo) (x_of cell.hi)) (are_beyond (y_of e.0) (y_of e.1) (y_of cell.lo) (y_of cell.hi)) h

pub apart_disjoint : (b : Bounds) (e : EdgeEnds) (cell : Region) → IsBoxed b e → is_apart b cell ≡ true → is_disjoint e cell ≡ true
apart_disjoint b e cell i h =
    ⊎_elim
    (λ (x : are_apart b.west b.east (x_of cell.lo) (x_of cell.hi) ≡ true).
    across e cell (⊎_elim
    (λ (w : int_lt b.east (x_of cell.lo) ≡ true).
    below (x_of e.0) (x_of e.1) (x_of cell.lo) (x_of cell.hi) (omega (arith, ints, i.start.east)) (omega (arith, ints, i.end.east)))
    (λ (w : int_lt (x_of cell.hi) b.west ≡ true).
    above (x_of e.0) (x_of e.1) (x_of cell.lo) (x_of cell.hi) (omega (arith, ints, i.start.west)) (omega (arith, ints, i.end.west)))
    (or_cases (int_lt b.east (x_of cell.lo)) (int_lt (x_of cell.hi) b.west) x)))
    (λ (y : are_apart b.south b.north (y_of cell.lo) (y_of cell.hi) ≡ true).
    along e cell (⊎_elim
    (λ (w : int_lt b.north (y_of cell.lo) ≡ true).
    below (y_of e.0) (y_of e.1) (y_of cell.lo) (y_of cell.hi) (omega (arith, ints, i.start.north)) (omega (arith, ints, i.end.north)))
    (λ (w : int_lt (y_of cell.hi) b.south ≡ true).
    above (y_of e.0) (y_of e.1) (y_of cell.lo) (y_of cell.hi) (omega (arith, ints, i.start.south)) (omega (arith, ints, i.end.south)))
    (or_cases (int_lt b.north (y_of cell.lo)) (int_lt (y_of cell.hi) b.south) y)))
    (or_cases (are_apart b.west b.east (x_of cell.lo) (x_of cell.hi)) (are_apart b.south b.north (y_of cell.lo) (y_of cell.hi)) h)

-- none of the edges in the box has the point, where the box is apart from it
pub off_apart : (b : Bounds) (run : List EdgeEnds) (p : List ℤ) → All (IsBoxed b) run → is_apart b (record { lo = p; hi = p }) ≡ true → is_on_any run p ≡ false
off_apart b run p i h =
    list_any_none (λ e. on e p) run (λ k d l. past (get_or run k d) p (apart_disjoint b (get_or run k d) (record { lo = p; hi = p }) (i k d l) h))

-- a run whose box is apart from the cell meets it nowhere
pub missed_apart : (b : Bounds) (run : List EdgeEnds) (cell : Region) → All (IsBoxed b) run → is_apart b cell ≡ true → any_meets run cell ≡ false
missed_apart b run cell i h =
    list_any_none (λ e. not (misses e cell)) run (λ k d l. ap not (misses_disjoint (get_or run k d) cell (apart_disjoint b (get_or run k d) cell (i k d l) h)))
