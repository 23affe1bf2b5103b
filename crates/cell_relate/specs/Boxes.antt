-- How boxes lie to cells: whether they have a common point, and whether the box cuts the cell.
use Rattle.std.specs.Prelude.{ℕ, Bool, not, ◌&&◌}
use Rattle.point_codec.specs.Points.{Region, all_le}
use Rattle.point_codec.specs.Cells.{within}

-- a box with the numbers of points and of cells that were asked of it
pub record CountedBox : Type 0 where
  pub bounds : Region
  pub tests : ℕ
  pub compares : ℕ

-- the box and the cell have a common point: in each dimension neither begins after the other ends, and the box has a
-- point
abbrev pub meets : Region → Region → Bool
meets box cell = all_le box.lo cell.hi && all_le cell.lo box.hi && all_le box.lo box.hi

-- they have a common point, and the cell does not lie within the box (Apache Lucene's PointRangeQuery)
abbrev pub crosses : Region → Region → Bool
crosses box cell = meets box cell && not (within cell box)
