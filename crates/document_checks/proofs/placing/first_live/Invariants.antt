use Rattle.std.proofs.Common.{◌+◌, ◌*◌}
use Rattle.document_checks.proofs.LivePlaces.{AreDead}
use Rattle.document_checks.proofs.placing.first_live.Given as goal

abbrev pub invariant-loop-i : goal.invariant-loop-i
invariant-loop-i l = AreDead l.live l.from (l.first + 64 * l.i)
