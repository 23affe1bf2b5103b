use Rattle.std.proofs.Common.{take}
use Rattle.document_checks.proofs.MarkedSets.{IsLeastNotGiven}
use Rattle.document_checks.proofs.placing.least_beyond.Given as goal

abbrev pub invariant-loop-live : goal.invariant-loop-live
invariant-loop-live l = IsLeastNotGiven (take l.live-index l.lives) l.next l.limit
