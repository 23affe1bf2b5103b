use Rattle.std.proofs.Common.{◌≡◌}
use Rattle.batch_queries.specs.Merging.{below}
use Rattle.batch_queries.proofs.begun.first_positions.Given as goal

-- the list has the positions below the one at hand
abbrev pub invariant-loop-position : goal.invariant-loop-position
invariant-loop-position l = l.list.items ≡ below l.position
