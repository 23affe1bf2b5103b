-- What the faults of a set say. Each carries over the faults of the calls below.
use Rattle.std.specs.Prelude.{◌≡◌, ◌≤◌, ℕ, Result, Ok, Err, OnOk, IsErrOf}
use Rattle.outer_io.specs.Counts.{Rose}
use Rattle.page_cache.specs.declared.faults.Damage.{Damage}
use Rattle.page_cache.specs.declared.faults.PageFault.{PageFault}
use Rattle.page_cache.specs.declared.faults.PageFault.TheVariants as page
use Rattle.segment_set.specs.declared.faults.AddFault.{AddFault}
use Rattle.segment_set.specs.declared.faults.AddFault.TheVariants as add
use Rattle.segment_set.specs.declared.faults.BeginFault.{BeginFault}
use Rattle.segment_set.specs.declared.faults.BeginFault.TheVariants as begin
use Rattle.segment_set.specs.declared.faults.EndFault.{EndFault}
use Rattle.segment_set.specs.declared.faults.EndFault.TheVariants as end

abbrev pub add_fault : PageFault → AddFault
add_fault page.Failed = add.Failed
add_fault (page.Damaged d) = add.Damaged d
add_fault page.Memory = add.Memory

abbrev pub begin_fault : PageFault → BeginFault
begin_fault page.Failed = begin.Failed
begin_fault (page.Damaged d) = begin.Damaged d
begin_fault page.Memory = begin.Memory

abbrev pub end_fault : PageFault → EndFault
end_fault page.Failed = end.Failed
end_fault (page.Damaged d) = end.Damaged d
end_fault page.Memory = end.Memory

-- P holds of the damage, where the call answers one
abbrev pub OnAddDamage : {T : Type 0} → Result T AddFault → (Damage → Type 0) → Type 0
OnAddDamage (Err (add.Damaged d)) P = P d
OnAddDamage (Err add.Full) P = Unit {0}
OnAddDamage (Err add.Failed) P = Unit {0}
OnAddDamage (Err add.Memory) P = Unit {0}
OnAddDamage (Ok _) P = Unit {0}

abbrev pub OnBeginDamage : {T : Type 0} → Result T BeginFault → (Damage → Type 0) → Type 0
OnBeginDamage (Err (begin.Damaged d)) P = P d
OnBeginDamage (Err begin.Begun) P = Unit {0}
OnBeginDamage (Err begin.Failed) P = Unit {0}
OnBeginDamage (Err begin.Memory) P = Unit {0}
OnBeginDamage (Ok _) P = Unit {0}

abbrev pub OnEndDamage : {T : Type 0} → Result T EndFault → (Damage → Type 0) → Type 0
OnEndDamage (Err (end.Damaged d)) P = P d
OnEndDamage (Err end.NotBegun) P = Unit {0}
OnEndDamage (Err end.Failed) P = Unit {0}
OnEndDamage (Err end.Memory) P = Unit {0}
OnEndDamage (Ok _) P = Unit {0}

-- faults are never forgotten; a call that is done raised none; one that answers this error, that the folder failed,
-- raised some
pub record HasCauseOf {T E : Type 0} (failed_is : E) (before now : ℕ) (result : Result T E) : Type 0 where
  pub later : before ≤ now
  pub on_ok : OnOk result (now ≡ before)
  pub failed : IsErrOf result failed_is → Rose before now
