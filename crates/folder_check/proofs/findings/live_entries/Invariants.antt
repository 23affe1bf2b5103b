use Rattle.std.proofs.Common.{◌≡◌, ◌-◌, ◌^◌, min, take}
use Rattle.folder_check.specs.Found.{all_entries}
use Rattle.folder_check.proofs.findings.live_entries.Given as goal

abbrev pub invariant-loop-finding : goal.invariant-loop-finding
invariant-loop-finding l = l.entries ≡ min (all_entries (take l.finding-index l.findings)) (2 ^ 64 - 1)
