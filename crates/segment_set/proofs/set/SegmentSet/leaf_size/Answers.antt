-- A set keeps to its rules.
use Rattle.std.proofs.Common.{subst}
use Rattle.segment_set.specs.Sets.{IsWell}
use Rattle.segment_set.proofs.set.SegmentSet.leaf_size.Goals as goal

pub returns-clause-well : goal.returns-clause-well
returns-clause-well g c = subst (IsWell g.row.D) c.self.view_is c.self.invariant
