-- An edge that misses a cell misses each cell within it.
use Rattle.std.proofs.Common.{◌≡◌, ℤ, pos, Bool, true, false, not, ◌&&◌, ◌||◌, List, [], ◌∷◌, get_or, refl, sym, ap, arith}
use Rattle.std.specs.Prelude.{◌<ℤ◌, ◌≤ℤ◌, int_lt}
use Rattle.std.specs.List.{list_all}
use Rattle.std.proofs.lemmas.Bool.{and_from, and_parts, or_left, or_right}
use Rattle.std.proofs.lemmas.Int.{ints}
use Rattle.std.proofs.lemmas.List.Folds.{list_any_none}
use Rattle.point_codec.specs.Points.{Region, all_le}
use Rattle.point_codec.specs.Cells.{within}
use Rattle.ring_parity.specs.Edges.{EdgeEnds, x_of, y_of, is_left, is_right, are_beyond, is_disjoint, corners, misses}
use Rattle.ring_parity.specs.Rings.{any_meets}
use Rattle.ring_parity.proofs.Signs.{turn, turn-turned, CornersLeft, left_of_line}
use Rattle.ring_parity.proofs.OneAnswer.{Misses, is_west, is_east, is_south, is_north, is_left_of, is_right_of}
use Rattle.ring_parity.proofs.OneAnswer.{x_least, y_least, side_is, misses_by, none_meets}
use Rattle.ring_parity.proofs.Rays.{misses_disjoint}

-- the ends of a cell with a point, between those of another
record Lies (outer inner : Region) : Type 0 where
  pub west : x_of outer.lo ≤ℤ x_of inner.lo
  pub across : x_of inner.lo ≤ℤ x_of inner.hi
  pub east : x_of inner.hi ≤ℤ x_of outer.hi
  pub south : y_of outer.lo ≤ℤ y_of inner.lo
  pub along : y_of inner.lo ≤ℤ y_of inner.hi
  pub north : y_of inner.hi ≤ℤ y_of outer.hi

lies_in : (outer inner : Region) → within inner outer ≡ true → all_le inner.lo inner.hi ≡ true → Lies outer inner
lies_in outer inner h ordered =
    let parts : (all_le outer.lo inner.lo ≡ true) × (all_le inner.hi outer.hi ≡ true) =
    and_parts (all_le outer.lo inner.lo) (all_le inner.hi outer.hi) h in
    record {
      west = x_least outer.lo inner.lo parts.0;
      across = x_least inner.lo inner.hi ordered;
      east = x_least inner.hi outer.hi parts.1;
      south = y_least outer.lo inner.lo parts.0;
      along = y_least inner.lo inner.hi ordered;
      north = y_least inner.hi outer.hi parts.1;
    }

-- ---- the bounding box of the edge is apart

below : (a b lo hi : ℤ) → a <ℤ lo → b <ℤ lo → are_beyond a b lo hi ≡ true
below a b lo hi p q =
    or_left (int_lt a lo && int_lt b lo) (int_lt hi a && int_lt hi b)
    (and_from (int_lt a lo) (int_lt b lo) (sym (omega (arith, ints))) (sym (omega (arith, ints))))

above : (a b lo hi : ℤ) → hi <ℤ a → hi <ℤ b → are_beyond a b lo hi ≡ true
above a b lo hi p q =
    or_right (int_lt a lo && int_lt b lo) (int_lt hi a && int_lt hi b)
    (and_from (int_lt hi a) (int_lt hi b) (sym (omega (arith, ints))) (sym (omega (arith, ints))))

apart_x : (e : EdgeEnds) (cell : Region) → are_beyond (x_of e.0) (x_of e.1) (x_of cell.lo) (x_of cell.hi) ≡ true → misses e cell ≡ true
apart_x e cell h = misses_disjoint e cell
    (or_left (are_beyond (x_of e.0) (x_of e.1) (x_of cell.lo) (x_of cell.hi)) (are_beyond (y_of e.0) (y_of e.1) (y_of cell.lo) (y_of cell.hi)) h)

apart_y : (e : EdgeEnds) (cell : Region) → are_beyond (y_of e.0) (y_of e.1) (y_of cell.lo) (y_of cell.hi) ≡ true → misses e cell ≡ true
apart_y e cell h = misses_disjoint e cell
    (or_right (are_beyond (x_of e.0) (x_of e.1) (x_of cell.lo) (x_of cell.hi)) (are_beyond (y_of e.0) (y_of e.1) (y_of cell.lo) (y_of cell.hi)) h)

-- ---- the corners lie on one side of its line

four_true : (a b c d : Bool) → a ≡ true → b ≡ true → c ≡ true → d ≡ true → (a && (b && (c && (d && true)))) ≡ true
four_true a b c d p q r s =
    and_from a (b && (c && (d && true))) p
    (and_from b (c && (d && true)) q
    (and_from c (d && true) r
    (and_from d true s refl)))

left_from : (e : EdgeEnds) (p : List ℤ) → pos 0 <ℤ turn (x_of e.0) (y_of e.0) (x_of e.1) (y_of e.1) (x_of p) (y_of p) → is_left e p ≡ true
left_from e p h = sym (omega (arith, ints, side_is e p))

right_from : (e : EdgeEnds) (p : List ℤ) → pos 0 <ℤ turn (x_of e.1) (y_of e.1) (x_of e.0) (y_of e.0) (x_of p) (y_of p) → is_right e p ≡ true
right_from e p h = sym (omega (arith, ints, side_is e p, turn-turned (x_of e.0) (y_of e.0) (x_of e.1) (y_of e.1) (x_of p) (y_of p)))

-- the corners of the inner cell are points of the outer one
corners_narrower : (ax ay bx by : ℤ) (outer inner : Region) → Lies outer inner
    → CornersLeft ax ay bx by (x_of outer.lo) (y_of outer.lo) (x_of outer.hi) (y_of outer.hi)
    → CornersLeft ax ay bx by (x_of inner.lo) (y_of inner.lo) (x_of inner.hi) (y_of inner.hi)
corners_narrower ax ay bx by outer inner l c =
    let here : (x y : ℤ) → x_of outer.lo ≤ℤ x → x ≤ℤ x_of outer.hi → y_of outer.lo ≤ℤ y → y ≤ℤ y_of outer.hi → pos 0 <ℤ turn ax ay bx by x y =
    λ x y p q r s. left_of_line ax ay bx by (x_of outer.lo) (y_of outer.lo) (x_of outer.hi) (y_of outer.hi) x y c p q r s in
    let west_in : x_of inner.lo ≤ℤ x_of outer.hi = omega (arith, ints, l.across, l.east) in
    let east_in : x_of outer.lo ≤ℤ x_of inner.hi = omega (arith, ints, l.west, l.across) in
    let south_in : y_of inner.lo ≤ℤ y_of outer.hi = omega (arith, ints, l.along, l.north) in
    let north_in : y_of outer.lo ≤ℤ y_of inner.hi = omega (arith, ints, l.south, l.along) in
    record {
      low_low = here (x_of inner.lo) (y_of inner.lo) l.west west_in l.south south_in;
      low_high = here (x_of inner.lo) (y_of inner.hi) l.west west_in north_in l.north;
      high_low = here (x_of inner.hi) (y_of inner.lo) east_in l.east l.south south_in;
      high_high = here (x_of inner.hi) (y_of inner.hi) east_in l.east north_in l.north;
    }

left_missed : (e : EdgeEnds) (cell : Region)
    → CornersLeft (x_of e.0) (y_of e.0) (x_of e.1) (y_of e.1) (x_of cell.lo) (y_of cell.lo) (x_of cell.hi) (y_of cell.hi) → misses e cell ≡ true
unfolding misses
left_missed e cell c =
    or_left (is_disjoint e cell || list_all (is_left e) (corners cell)) (list_all (is_right e) (corners cell))
    (or_right (is_disjoint e cell) (list_all (is_left e) (corners cell))
    (four_true (is_left e (x_of cell.lo ∷ y_of cell.lo ∷ [])) (is_left e (x_of cell.lo ∷ y_of cell.hi ∷ []))
    (is_left e (x_of cell.hi ∷ y_of cell.lo ∷ [])) (is_left e (x_of cell.hi ∷ y_of cell.hi ∷ []))
    (left_from e (x_of cell.lo ∷ y_of cell.lo ∷ []) c.low_low) (left_from e (x_of cell.lo ∷ y_of cell.hi ∷ []) c.low_high)
    (left_from e (x_of cell.hi ∷ y_of cell.lo ∷ []) c.high_low) (left_from e (x_of cell.hi ∷ y_of cell.hi ∷ []) c.high_high)))

right_missed : (e : EdgeEnds) (cell : Region)
    → CornersLeft (x_of e.1) (y_of e.1) (x_of e.0) (y_of e.0) (x_of cell.lo) (y_of cell.lo) (x_of cell.hi) (y_of cell.hi) → misses e cell ≡ true
unfolding misses
right_missed e cell c =
    or_right (is_disjoint e cell || list_all (is_left e) (corners cell)) (list_all (is_right e) (corners cell))
    (four_true (is_right e (x_of cell.lo ∷ y_of cell.lo ∷ [])) (is_right e (x_of cell.lo ∷ y_of cell.hi ∷ []))
    (is_right e (x_of cell.hi ∷ y_of cell.lo ∷ [])) (is_right e (x_of cell.hi ∷ y_of cell.hi ∷ []))
    (right_from e (x_of cell.lo ∷ y_of cell.lo ∷ []) c.low_low) (right_from e (x_of cell.lo ∷ y_of cell.hi ∷ []) c.low_high)
    (right_from e (x_of cell.hi ∷ y_of cell.lo ∷ []) c.high_low) (right_from e (x_of cell.hi ∷ y_of cell.hi ∷ []) c.high_high))

-- ---- one edge, and all

narrower : (e : EdgeEnds) (outer inner : Region) → Lies outer inner → Misses e outer → misses e inner ≡ true
narrower e outer inner l (is_west a b) =
    apart_x e inner (below (x_of e.0) (x_of e.1) (x_of inner.lo) (x_of inner.hi) (omega (arith, ints, a, l.west)) (omega (arith, ints, b, l.west)))
narrower e outer inner l (is_east a b) =
    apart_x e inner (above (x_of e.0) (x_of e.1) (x_of inner.lo) (x_of inner.hi) (omega (arith, ints, a, l.east)) (omega (arith, ints, b, l.east)))
narrower e outer inner l (is_south a b) =
    apart_y e inner (below (y_of e.0) (y_of e.1) (y_of inner.lo) (y_of inner.hi) (omega (arith, ints, a, l.south)) (omega (arith, ints, b, l.south)))
narrower e outer inner l (is_north a b) =
    apart_y e inner (above (y_of e.0) (y_of e.1) (y_of inner.lo) (y_of inner.hi) (omega (arith, ints, a, l.north)) (omega (arith, ints, b, l.north)))
narrower e outer inner l (is_left_of c) = left_missed e inner (corners_narrower (x_of e.0) (y_of e.0) (x_of e.1) (y_of e.1) outer inner l c)
narrower e outer inner l (is_right_of c) = right_missed e inner (corners_narrower (x_of e.1) (y_of e.1) (x_of e.0) (y_of e.0) outer inner l c)

pub missed_within : (e : EdgeEnds) (outer inner : Region) → within inner outer ≡ true → all_le inner.lo inner.hi ≡ true → misses e outer ≡ true
    → misses e inner ≡ true
missed_within e outer inner h ordered m = narrower e outer inner (lies_in outer inner h ordered) (misses_by e outer m)

-- a cell within one that no edge meets is met by none
pub none_meets_within : (edges : List EdgeEnds) (outer inner : Region) → within inner outer ≡ true → all_le inner.lo inner.hi ≡ true
    → any_meets edges outer ≡ false → any_meets edges inner ≡ false
none_meets_within edges outer inner h ordered none =
    list_any_none (λ e. not (misses e inner)) edges
    (λ k d lt. ap not (missed_within (get_or edges k d) outer inner h ordered (none_meets edges outer none k d lt)))
