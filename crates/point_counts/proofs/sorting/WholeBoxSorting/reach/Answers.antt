use Rattle.std.proofs.Common.{rules}
use Rattle.point_codec.specs.Points.{Region}
use Rattle.cell_relate.proofs.Reach.{corners_reach}
use Rattle.point_counts.proofs.sorting.WholeBoxSorting.reach.Goals as goal

pub returns : goal.returns
returns g c p h =
    let box : Region = record { lo = c.args.self.now.lo.c; hi = c.args.self.now.hi.c } in
    corners_reach box c.args.d (search rules) (search rules) p h
