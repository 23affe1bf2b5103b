use Rattle.std.proofs.Common.{◌≡◌, ◌<◌, ◌≤◌, ℕ, false}
use Rattle.point_codec.specs.declared.entries.Entry.{Entry}
use Rattle.document_checks.specs.Crowded.{repeats_at}
use Rattle.document_checks.proofs.doubles.first_crowded.Given as goal

abbrev pub invariant-loop-k : goal.invariant-loop-k
invariant-loop-k g l = (k : ℕ) (d : Entry g.row.D) → 1 ≤ k → k < l.k → repeats_at d l.list k ≡ false
