use Rattle.std.proofs.Common.{◌≤◌, ◌-◌}
use Rattle.leaf_codec.proofs.guess.first_from.Given as goal

abbrev pub invariant-loop-from : goal.invariant-loop-from
invariant-loop-from l = record { ordered : l.from ≤ l.end; within : l.end ≤ l.parts.count }

abbrev pub decreases-loop-from : goal.decreases-loop-from
decreases-loop-from l = l.end - l.from
