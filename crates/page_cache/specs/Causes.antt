-- What the answers of a call say of the count of faults of the folder that it was made on: a failure of the
-- folder is answered only by a call in which that count rose.
use Rattle.std.specs.Prelude.{◌≡◌, ℕ, ◌≤◌, Result, Ok, Err, OnOk, IsErrOf}
use Rattle.outer_io.specs.Counts.{Rose}
use Rattle.outer_io.specs.declared.faults.WriteFault.{WriteFault}
use Rattle.outer_io.specs.declared.faults.WriteFault.TheVariants as write
use Rattle.page_cache.specs.declared.faults.PageFault.{PageFault}
use Rattle.page_cache.specs.declared.faults.PageFault.TheVariants as page

-- faults are never forgotten; a call that is done raised none; a call that answers Failed raised some
pub record HasPageCause {T : Type 0} (before now : ℕ) (result : Result T PageFault) : Type 0 where
  pub later : before ≤ now
  pub on_ok : OnOk result (now ≡ before)
  pub failed : IsErrOf result page.Failed → Rose before now

-- a call that answers anything but Failed raised none
abbrev pub IsSteady : {T : Type 0} → ℕ → ℕ → Result T PageFault → Type 0
IsSteady before now (Ok _) = now ≡ before
IsSteady before now (Err page.Failed) = Unit {0}
IsSteady before now (Err (page.Damaged d)) = now ≡ before
IsSteady before now (Err page.Memory) = now ≡ before

-- what a fault of a call that writes is where a call may meet damage too
abbrev pub page_fault : WriteFault → PageFault
page_fault write.Failed = page.Failed
page_fault write.Memory = page.Memory
