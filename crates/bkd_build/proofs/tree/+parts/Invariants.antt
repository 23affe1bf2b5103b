use Rattle.std.proofs.Common.{◌+◌, ◌*◌}
use Rattle.bkd_build.proofs.tree.+parts.Given as goal

abbrev pub decreases-build_part : goal.decreases-build_part
decreases-build_part g l = 4 * l.forks + 3

abbrev pub decreases-both : goal.decreases-both
decreases-both g l = 4 * l.forks + 2

abbrev pub decreases-both-first : goal.decreases-both-first
decreases-both-first g l = 4 * l.forks + 1

abbrev pub decreases-both-second : goal.decreases-both-second
decreases-both-second g l = 4 * l.forks + 1
