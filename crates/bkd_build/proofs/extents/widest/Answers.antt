use Rattle.std.proofs.Common.{rules, ◌≡◌, true, false, get_or}
use Rattle.point_codec.specs.Seen.{items_of, region_of}
use Rattle.bkd_build.proofs.Sides.{widest_exact}
use Rattle.bkd_build.proofs.extents.widest.Goals as goal

pub returns-clause-widest : goal.returns-clause-widest
returns-clause-widest g c =
    let h = c.sides.invariant in
    let is : get_or c.sides.exact c.sides.widest false ≡ true = search rules in
    widest_exact g.row.D c.sides.widest (region_of c.sides.cell) (items_of c.args.entries.now) h.inside h.side (h.exact c.sides.widest is)
