use Rattle.std.proofs.Common.{length}
use Rattle.bench.proofs.partition.+part.Given as goal

abbrev pub decreases-part : goal.decreases-part
decreases-part l = length l.entries.now
