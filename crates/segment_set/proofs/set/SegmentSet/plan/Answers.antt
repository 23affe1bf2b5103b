-- The plan is of the set's own numbers.
use Rattle.std.proofs.Common.{ap}
use Rattle.segment_set.specs.Sets.{SetData}
use Rattle.segment_set.proofs.set.SegmentSet.plan.Goals as goal

pub invariant_of-result : goal.invariant_of-result
invariant_of-result g c = record {
  some_dims = c.self.invariant.some_dims;
  few_dims = c.self.invariant.few_dims;
  least_leaf = c.self.invariant.least_leaf;
  greatest_leaf = c.self.invariant.greatest_leaf;
  most_given = c.self.invariant.most_given;
}

pub returns-clause-leaf_size : goal.returns-clause-leaf_size
returns-clause-leaf_size g c = ap (λ (s : SetData). s.leaf_size) c.self.view_is

pub returns-clause-points_given : goal.returns-clause-points_given
returns-clause-points_given g c = ap (λ (s : SetData). s.points_given) c.self.view_is
