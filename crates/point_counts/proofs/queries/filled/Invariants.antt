use Rattle.point_counts.proofs.Told.{AreTold}
use Rattle.point_counts.proofs.queries.filled.Given as goal

abbrev pub invariant-loop-k : goal.invariant-loop-k
invariant-loop-k g l = AreTold l.rows l.table l.k l.buckets.items
