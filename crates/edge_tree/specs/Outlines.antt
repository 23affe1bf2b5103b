-- What an outline tells of a run of edges.
use Rattle.std.specs.Prelude.{◌≡◌, ◌%◌, ℤ, ◌≤ℤ◌, int_lt, Bool, not, ◌||◌, ◌==◌, List, All, count_by, IfSome}
use Rattle.std.specs.Bool.{beq}
use Rattle.point_codec.specs.Points.{Region}
use Rattle.ring_parity.specs.Edges.{EdgeEnds, x_of, y_of}
use Rattle.ring_parity.specs.Rings.{is_on_any, is_odd}
use Rattle.edge_tree.specs.declared.outline.Bounds.{Bounds}
use Rattle.edge_tree.specs.declared.outline.Climb.{Climb}
use Rattle.edge_tree.specs.declared.outline.Outline.{Outline}

-- the box has the position
pub record HasPosition (b : Bounds) (v : List ℤ) : Type 0 where
  pub west : b.west ≤ℤ x_of v
  pub east : x_of v ≤ℤ b.east
  pub south : b.south ≤ℤ y_of v
  pub north : y_of v ≤ℤ b.north

-- the box has both ends of the edge
pub record IsBoxed (b : Bounds) (e : EdgeEnds) : Type 0 where
  pub start : HasPosition b e.0
  pub end : HasPosition b e.1

-- two ranges have no common number
abbrev pub are_apart : ℤ → ℤ → ℤ → ℤ → Bool
are_apart low high from to = int_lt high from || int_lt to low

-- the box and the cell have no common point
abbrev pub is_apart : Bounds → Region → Bool
is_apart b cell =
    are_apart b.west b.east (x_of cell.lo) (x_of cell.hi) || are_apart b.south b.north (y_of cell.lo) (y_of cell.hi)

-- the box is west of the point, below it or above it
abbrev pub is_off_ray : Bounds → List ℤ → Bool
is_off_ray b p = int_lt b.east (x_of p) || are_apart b.south b.north (y_of p) (y_of p)

-- exactly one of the two heights is above y
abbrev pub is_passed : ℤ → ℤ → ℤ → Bool
is_passed from to y = not (beq (int_lt y from) (int_lt y to))

abbrev pub climbs : Climb → ℤ → Bool
climbs c y = is_passed c.from c.to y

-- an odd number of the edges leads past the height y
abbrev pub pass_oddly : List EdgeEnds → ℤ → Bool
pass_oddly run y = count_by (λ e. is_passed (y_of e.0) (y_of e.1) y) run % 2 == 1

pub record Outlines (run : List EdgeEnds) (o : Outline) : Type 0 where
  pub boxed : All (IsBoxed o.bounds) run
  pub climb : IfSome o.climb (λ c. (y : ℤ) → pass_oddly run y ≡ climbs c y)

-- whether a point is on an edge of the run, and whether an odd number of its edges counts for the point
pub record IsLocation (run : List EdgeEnds) (p : List ℤ) (on odd : Bool) : Type 0 where
  pub on_is : is_on_any run p ≡ on
  pub odd_is : is_odd run p ≡ odd
