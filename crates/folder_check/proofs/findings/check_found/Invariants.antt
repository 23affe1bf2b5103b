use Rattle.std.proofs.Common.{take}
use Rattle.std.specs.List.{AllZip}
use Rattle.folder_check.specs.Found.{HasAll}
use Rattle.folder_check.proofs.findings.check_found.Given as goal

abbrev pub invariant-loop-i : goal.invariant-loop-i
invariant-loop-i l = AllZip HasAll (take l.i l.listed) (take l.i l.findings)
