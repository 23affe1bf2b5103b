use Rattle.std.proofs.Common.{◌≤◌, length}
use Rattle.edge_tree.proofs.level.innermost.Given as goal

abbrev pub invariant-loop-held : goal.invariant-loop-held
invariant-loop-held l = l.held ≤ length l.levels

abbrev pub decreases-loop-held : goal.decreases-loop-held
decreases-loop-held l = l.held
