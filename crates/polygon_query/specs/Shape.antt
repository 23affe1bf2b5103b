-- A polygon as a shape, seen as its edges with the numbers of points and of cells that were asked of it. It lies in the
-- plane: in any other number of dimensions it has no point and crosses no cell.
use Rattle.std.specs.Prelude.{ℕ, Bool, ◌&&◌, ◌==◌, List, ℤ}
use Rattle.point_codec.specs.Points.{Region}
use Rattle.ring_parity.specs.Edges.{EdgeEnds}
use Rattle.ring_parity.specs.Rings.{is_within, any_meets}

pub record CountedPolygon : Type 0 where
  pub edges : List EdgeEnds
  pub tests : ℕ
  pub compares : ℕ

abbrev pub has : ℕ → List EdgeEnds → List ℤ → Bool
has dims edges p = dims == 2 && is_within edges p

abbrev pub crosses : ℕ → List EdgeEnds → Region → Bool
crosses dims edges cell = dims == 2 && any_meets edges cell
