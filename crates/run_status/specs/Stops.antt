-- Why a run stops, and with which status.
use Rattle.std.specs.Prelude.{ℕ, ◌==◌, if◌then◌else◌, Result, Ok, Err}
use Rattle.page_cache.specs.declared.faults.PageFault.{PageFault}
use Rattle.page_cache.specs.declared.faults.PageFault.TheVariants as page
use Rattle.run_status.specs.declared.stop.Stop.{Stop}
use Rattle.run_status.specs.declared.stop.Stop.TheVariants as stop
use Rattle.run_status.specs.declared.status.Status.{Status}
use Rattle.run_status.specs.declared.status.Status.TheVariants as status

-- the stop that a fault of something stored makes
abbrev pub stop_of : PageFault → Stop
stop_of page.Failed = stop.FolderFault
stop_of (page.Damaged damage) = stop.Damaged damage
stop_of page.Memory = stop.Memory

-- the status of lines that were all answered, of which so many were refused, or that stopped
abbrev pub status_of : Result ℕ Stop → Status
status_of (Ok refused) = if refused == 0 then status.Done else status.SomeRefused refused
status_of (Err stop.SinkFault) = status.SinkFault
status_of (Err stop.FolderFault) = status.FolderFault
status_of (Err (stop.Damaged damage)) = status.Damaged damage
status_of (Err stop.Memory) = status.Memory
