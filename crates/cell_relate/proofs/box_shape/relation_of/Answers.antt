use Rattle.point_codec.specs.Seen.{region_of}
use Rattle.cell_relate.proofs.BoxRelation.{box_outside, box_inside}
use Rattle.cell_relate.proofs.box_shape.relation_of.Goals as goal

pub returns-then-not-meets : goal.returns-then-not-meets
returns-then-not-meets g c =
    box_outside (record { lo = c.args.lo.now.c; hi = c.args.hi.now.c }) (region_of c.args.c.now) c.args.c.now.ordered (cc)

pub returns-then-has_whole : goal.returns-then-has_whole
returns-then-has_whole g c =
    box_inside (record { lo = c.args.lo.now.c; hi = c.args.hi.now.c }) (region_of c.args.c.now) c.args.c.now.ordered (cc)
