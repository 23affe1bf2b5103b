use Rattle.std.proofs.Common.{take}
use Rattle.document_checks.proofs.MarkedSets.{IsCounted}
use Rattle.document_checks.proofs.placing.least_doubled.Given as goal

abbrev pub invariant-loop-live : goal.invariant-loop-live
invariant-loop-live l = IsCounted (take l.live-index l.lives) l.next l.limit l.marks
