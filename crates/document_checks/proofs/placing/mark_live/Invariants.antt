use Rattle.std.proofs.Common.{◌*◌}
use Rattle.document_checks.proofs.LivePlaces.{IsMarked}
use Rattle.document_checks.proofs.placing.mark_live.Given as goal

abbrev pub invariant-loop-at : goal.invariant-loop-at
invariant-loop-at l = IsMarked l.initial.marks l.marks l.live (64 * l.at)
