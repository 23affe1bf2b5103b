use Rattle.std.proofs.Common.{rules, arith}
use Rattle.point_counts.proofs.plan.GridPlan.new.Goals as goal

pub invariant_of-result : goal.invariant_of-result
invariant_of-result g c = (
  (
    record {
      column_dim = omega (arith, c.if-column.false);
      row_dim = omega (arith, c.if-row.false);
      differ = search rules;
      column_step = omega (arith, c.if-step_x-eq0.false);
      row_step = omega (arith, c.if-step_y-eq0.false);
    },
    omega (arith, c.buckets_of-buckets.ensures, c.if-buckets-gt-MOST_BUCKETS.false),
  ),
  search rules,
)
