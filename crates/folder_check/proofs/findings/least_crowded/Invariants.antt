use Rattle.std.proofs.Common.{take}
use Rattle.folder_check.proofs.Crowded.{IsLeastSoFar}
use Rattle.folder_check.proofs.findings.least_crowded.Given as goal

abbrev pub invariant-loop-finding : goal.invariant-loop-finding
invariant-loop-finding l = IsLeastSoFar (take l.finding-index l.findings) l.least
