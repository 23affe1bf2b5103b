use Rattle.std.proofs.Common.{◌+◌, ◌*◌}
use Rattle.batch_run.proofs.batches.+parts.Given as goal

abbrev pub decreases-answer_part : goal.decreases-answer_part
decreases-answer_part g l = 4 * l.forks + 3

abbrev pub decreases-both : goal.decreases-both
decreases-both g l = 4 * l.forks + 2

abbrev pub decreases-both-join+arg2 : goal.decreases-both-join+arg2
decreases-both-join+arg2 g l = 4 * l.forks + 1

abbrev pub decreases-both-join+arg3 : goal.decreases-both-join+arg3
decreases-both-join+arg3 g l = 4 * l.forks + 1
