use Rattle.std.proofs.Common.{length, ◌+◌, ◌*◌}
use Rattle.bkd_build.proofs.tree.+sequence.Given as goal

abbrev pub decreases-grow : goal.decreases-grow
decreases-grow g l = 2 * length l.entries.now + 1

abbrev pub decreases-grow_halves : goal.decreases-grow_halves
decreases-grow_halves g l = 2 * (length l.left.now + length l.right.now)
