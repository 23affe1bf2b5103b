use Rattle.std.proofs.Common.{◌≤◌, ◌*◌, take}
use Rattle.nearest_query.specs.Segments.{AreNearLeaves}
use Rattle.segment_view.proofs.surveys.survey_near.Given as goal

abbrev pub invariant-loop-head : goal.invariant-loop-head
invariant-loop-head g l = record {
  near : AreNearLeaves g.row.D l.at.c l.bound (take l.head-index l.head-items) l.near;
  few : l.near ≤ l.head-index * 8388608;
}
