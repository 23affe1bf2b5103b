-- Polygons as rings: a ring is the list of its positions, a polygon the list of its rings, the outer one and the holes
-- alike (RFC 7946, 3.1.6).
use Rattle.std.specs.Prelude.{◌≡◌, ◌≤◌, ◌-◌, ◌%◌, ◌^◌, ℤ, Bool, not, ◌||◌, ◌==◌, List, [], length, drop, slice_index_or}
use Rattle.std.specs.Prelude.{sum_by, count_by, flat_map, zip, All}
use Rattle.std.specs.List.{list_any}
use Rattle.std.specs.Bool.{beq}
use Rattle.point_codec.specs.Points.{Region}
use Rattle.ring_parity.specs.Edges.{EdgeEnds, on, counts, misses}

-- from each position to the next
abbrev pub edges_of : List (List ℤ) → List EdgeEnds
edges_of ring = zip ring (drop 1 ring)

abbrev pub all_edges : List (List (List ℤ)) → List EdgeEnds
all_edges rings = flat_map edges_of rings

abbrev pub is_on_any : List EdgeEnds → List ℤ → Bool
is_on_any edges p = list_any (λ e. on e p) edges

-- an odd number of the edges counts for p
abbrev pub is_odd : List EdgeEnds → List ℤ → Bool
is_odd edges p = count_by (λ e. counts e p) edges % 2 == 1

-- p is in the area that the edges bound, by the even-odd rule, the boundary within
abbrev pub is_within : List EdgeEnds → List ℤ → Bool
is_within edges p = is_on_any edges p || is_odd edges p

-- p is on some edge of the rings, or an odd number of their edges counts
abbrev pub in_polygon : List (List (List ℤ)) → List ℤ → Bool
in_polygon rings p = is_within (all_edges rings) p

-- some edge does not miss the cell
abbrev pub any_meets : List EdgeEnds → Region → Bool
any_meets edges cell = list_any (λ e. not (misses e cell)) edges

abbrev pub rings_cross : List (List (List ℤ)) → Region → Bool
rings_cross rings cell = any_meets (all_edges rings) cell

abbrev pub IsClosed : List (List ℤ) → Type 0
IsClosed ring = slice_index_or ring 0 [] ≡ slice_index_or ring (length ring - 1) []

-- a linear ring is closed and has four or more positions (RFC 7946, 3.1.6)
pub record IsLinearRing (ring : List (List ℤ)) : Type 0 where
  pub enough : 4 ≤ length ring
  pub closed : IsClosed ring

-- what a polygon of this index is: linear rings, of at most 65,536 positions in all (a limit of this project)
pub record ArePolygon (rings : List (List (List ℤ))) : Type 0 where
  pub few : sum_by length rings ≤ 2 ^ 16
  pub linear : All IsLinearRing rings

-- The edges close up: whichever points are marked, the number of edges with one marked end is even. Those of closed
-- rings do, as each ring leaves the marked points as often as it comes to them.
unfoldable pub AreClosed : List EdgeEnds → Type 0
AreClosed edges = (marked : List ℤ → Bool) → count_by (λ e. not (beq (marked e.0) (marked e.1))) edges % 2 ≡ 0
