use Rattle.std.proofs.Common.{◌≤◌, take, All}
use Rattle.document_checks.proofs.doubles.reach.Given as goal

abbrev pub invariant-loop-entry : goal.invariant-loop-entry
invariant-loop-entry g l = All (λ e. (l.least ≤ e.doc) × (e.doc ≤ l.greatest)) (take l.entry-index l.entries)
