use Rattle.std.proofs.Common.{ap}
use Rattle.segment_set.specs.Sets.{SetData}
use Rattle.segment_set.proofs.set.SegmentSet.points_given.Goals as goal

pub returns : goal.returns
returns g c = ap (λ (s : SetData). s.points_given) c.self.view_is
