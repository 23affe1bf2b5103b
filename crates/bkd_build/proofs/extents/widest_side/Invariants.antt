-- The first one of the dimensions passed in which the cell is widest.
use Rattle.std.proofs.Common.{◌≡◌}
use Rattle.point_codec.specs.Seen.{region_of}
use Rattle.bkd_build.specs.Extents.{IsWidestSide, width}
use Rattle.bkd_build.proofs.extents.widest_side.Given as goal

abbrev pub invariant-loop-d : goal.invariant-loop-d
invariant-loop-d g l = record {
  side : IsWidestSide l.d l.widest (region_of l.cell);
  is : l.greatest ≡ width (region_of l.cell) l.widest;
}
