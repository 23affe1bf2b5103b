-- Edges in the plane, and the points and cells that are on them, counted by them or missed by them. A point is the list
-- of its coordinates, x and then y. All numbers are whole and of any size.
use Rattle.std.specs.Prelude.{ℤ, pos, ◌-ℤ◌, ◌*ℤ◌, int_lt, Bool, not, ◌&&◌, ◌||◌, List, [], ◌∷◌, slice_index_or}
use Rattle.std.specs.List.{list_all}
use Rattle.std.specs.Ordering.{int_eq}
use Rattle.point_codec.specs.Points.{Region}

-- an edge, the straight line from one position of a ring to the next (RFC 7946, 3.1.1 and 3.1.6), as the pair of its
-- ends
abbrev pub EdgeEnds : Type 0
EdgeEnds = List ℤ × List ℤ

abbrev pub x_of : List ℤ → ℤ
x_of p = slice_index_or p 0 (pos 0)

abbrev pub y_of : List ℤ → ℤ
y_of p = slice_index_or p 1 (pos 0)

-- twice the signed area of the triangle that an edge and a point span: positive where the point is left of the edge,
-- negative where it is right of it, 0 where the three are in one line
unfoldable pub side : EdgeEnds → List ℤ → ℤ
side e p = (x_of e.1 -ℤ x_of e.0) *ℤ (y_of p -ℤ y_of e.0) -ℤ (y_of e.1 -ℤ y_of e.0) *ℤ (x_of p -ℤ x_of e.0)

abbrev pub is_left : EdgeEnds → List ℤ → Bool
is_left e p = int_lt (pos 0) (side e p)

abbrev pub is_right : EdgeEnds → List ℤ → Bool
is_right e p = int_lt (side e p) (pos 0)

-- both numbers are below the range from lo to hi, or both above it
abbrev pub are_beyond : ℤ → ℤ → ℤ → ℤ → Bool
are_beyond a b lo hi = int_lt a lo && int_lt b lo || int_lt hi a && int_lt hi b

-- the bounding box of an edge and the cell have no common point
abbrev pub is_disjoint : EdgeEnds → Region → Bool
is_disjoint e cell =
    are_beyond (x_of e.0) (x_of e.1) (x_of cell.lo) (x_of cell.hi) || are_beyond (y_of e.0) (y_of e.1) (y_of cell.lo)
    (y_of cell.hi)

-- p is on the edge: in one line with its ends, and in its bounding box
unfoldable pub on : EdgeEnds → List ℤ → Bool
on e p = int_eq (side e p) (pos 0) && not (is_disjoint e (record { lo = p; hi = p }))

abbrev pub is_above : List ℤ → List ℤ → Bool
is_above a p = int_lt (y_of p) (y_of a)

-- the even-odd rule counts an edge that crosses the ray from p to the east: exactly one end is above p, and p is left
-- of the edge where it rises and right of it where it falls
unfoldable pub counts : EdgeEnds → List ℤ → Bool
counts e p = not (is_above e.0 p) && is_above e.1 p && is_left e p || is_above e.0 p && not
    (is_above e.1 p) && is_right e p

-- the corners of a cell
abbrev pub corners : Region → List (List ℤ)
corners cell =
    (x_of cell.lo ∷ y_of cell.lo ∷ []) ∷ (x_of cell.lo ∷ y_of cell.hi ∷ []) ∷ (x_of cell.hi ∷ y_of cell.lo ∷ []) ∷
    (x_of cell.hi ∷ y_of cell.hi ∷ []) ∷ []

-- the edge misses the cell: its bounding box has no point of it, or the corners lie strictly on one side of the edge's
-- line
unfoldable pub misses : EdgeEnds → Region → Bool
misses e cell = is_disjoint e cell || list_all (is_left e) (corners cell) || list_all (is_right e) (corners cell)
