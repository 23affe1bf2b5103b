use Rattle.std.proofs.Common.{◌≡◌, ◌≤◌, ◌+◌, take}
use Rattle.std.specs.List.{count_by}
use Rattle.point_counts.specs.Tables.{is_up_to}
use Rattle.point_counts.proofs.runs.count_to.Given as goal

abbrev pub invariant-loop-k : goal.invariant-loop-k
invariant-loop-k g l = record {
  within : l.k ≤ l.next;
  few : l.below + l.i ≤ l.k;
  sum : count_by (is_up_to l.d l.cut) (take l.i l.leaf) + l.below ≡ count_by (is_up_to l.d l.cut) (take l.k l.leaf);
}
