use Rattle.std.proofs.Common.{ap, ◌∙◌, rules}
use Rattle.point_codec.specs.Points.{Region, in_box}
use Rattle.cell_relate.specs.Boxes.{CountedBox}
use Rattle.cell_relate.proofs.Reach.{corners_reach}
use Rattle.cell_relate.proofs.box_shape.BoxShapeShape.reach.Goals as goal

pub returns : goal.returns
returns g c p h =
    let v = c.self.inside in
    let box : Region = record { lo = v.lo.c; hi = v.hi.c } in
    corners_reach box c.args.d (search rules) (search rules) p (ap (λ (a : CountedBox). in_box a.bounds p) c.self.view_is ∙ h)
