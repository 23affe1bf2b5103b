use Rattle.std.proofs.Common.{rules, ◌≡◌, length}
use Rattle.point_codec.specs.Seen.{items_of, region_of}
use Rattle.bkd_build.proofs.Sides.{cell_holds}
use Rattle.bench.proofs.partition.part_all.Goals as goal

pub part-requires : goal.part-requires
part-requires c =
    let r = region_of c.in-Some.cell in
    let lo : length r.lo ≡ 2 = search rules in
    let hi : length r.hi ≡ 2 = search rules in
    record { are = c.requires; inside = cell_holds 2 r (items_of c.args.entries.now) lo hi c.in-Some.ensures.least }
