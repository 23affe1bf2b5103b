-- All entries lie in the cell, and in the dimensions that were looked at its sides are theirs.
use Rattle.std.proofs.Common.{◌≡◌, ℕ, true, false, length, get_or}
use Rattle.point_codec.specs.Seen.{items_of, region_of}
use Rattle.bkd_build.specs.Extents.{HasExtent, IsWidestSide, LieIn, width}
use Rattle.bkd_build.proofs.Sides.{open_sides}
use Rattle.bkd_build.proofs.extents.widest.Given as goal

abbrev pub invariant-sides : goal.invariant-sides
invariant-sides g l = record {
  long : length l.exact ≡ g.row.D;
  side : IsWidestSide g.row.D l.widest (region_of l.cell);
  inside : LieIn g.row.D (region_of l.cell) (items_of l.entries);
  exact : (e : ℕ) → get_or l.exact e false ≡ true → HasExtent e (width (region_of l.cell) e) (items_of l.entries);
}

abbrev pub decreases-sides : goal.decreases-sides
decreases-sides g l = open_sides l.exact
