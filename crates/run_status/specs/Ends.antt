-- How a run ended, by cases on its status or on what stopped it.
use Rattle.std.specs.Prelude.{ℕ, ◌≤◌, Result, Ok, Err, IsErrOf}
use Rattle.outer_io.specs.Counts.{Rose}
use Rattle.page_cache.specs.declared.faults.Damage.{Damage}
use Rattle.run_status.specs.declared.stop.Stop.{Stop}
use Rattle.run_status.specs.declared.stop.Stop.TheVariants as stop
use Rattle.run_status.specs.declared.status.Status.{Status}
use Rattle.run_status.specs.declared.status.Status.TheVariants as status

-- all was done, or refused by rule
abbrev pub IsAnswer : Status → Type 0
IsAnswer status.Done = Unit {0}
IsAnswer (status.SomeRefused count) = Unit {0}
IsAnswer _ = ⊥

-- the counts of faults of the folder and of the sink never fall, and the one whose fault it is rose
pub record HasStopCause {T : Type 0} (folder_before folder_now sink_before sink_now : ℕ) (result : Result T Stop)
    : Type 0 where
  pub folder_later : folder_before ≤ folder_now
  pub sink_later : sink_before ≤ sink_now
  pub folder : IsErrOf result stop.FolderFault → Rose folder_before folder_now
  pub sink : IsErrOf result stop.SinkFault → Rose sink_before sink_now

-- the input was read to its end
abbrev pub GoesOn : Status → Type 0
GoesOn status.Done = Unit {0}
GoesOn (status.SomeRefused count) = Unit {0}
GoesOn status.SinkFault = Unit {0}
GoesOn status.FolderFault = Unit {0}
GoesOn (status.Damaged damage) = Unit {0}
GoesOn status.Memory = ⊥
GoesOn status.Usage = ⊥
GoesOn status.SourceFault = ⊥
GoesOn status.TooLarge = ⊥

-- the statuses with which a run ends before anything was done
abbrev pub DoesNothing : Status → Type 0
DoesNothing status.Usage = Unit {0}
DoesNothing status.SourceFault = Unit {0}
DoesNothing status.TooLarge = Unit {0}
DoesNothing status.Done = ⊥
DoesNothing (status.SomeRefused count) = ⊥
DoesNothing status.SinkFault = ⊥
DoesNothing status.Memory = ⊥
DoesNothing status.FolderFault = ⊥
DoesNothing (status.Damaged damage) = ⊥

abbrev pub IsDamaged : Status → Type 0
IsDamaged (status.Damaged damage) = Unit {0}
IsDamaged status.Usage = ⊥
IsDamaged status.SourceFault = ⊥
IsDamaged status.TooLarge = ⊥
IsDamaged status.Done = ⊥
IsDamaged (status.SomeRefused count) = ⊥
IsDamaged status.SinkFault = ⊥
IsDamaged status.Memory = ⊥
IsDamaged status.FolderFault = ⊥

-- P holds of the damage, where a run stops for one
abbrev pub OnStopDamage : {T : Type 0} → Result T Stop → (Damage → Type 0) → Type 0
OnStopDamage (Ok x) P = Unit {0}
OnStopDamage (Err stop.SinkFault) P = Unit {0}
OnStopDamage (Err stop.FolderFault) P = Unit {0}
OnStopDamage (Err (stop.Damaged damage)) P = P damage
OnStopDamage (Err stop.Memory) P = Unit {0}

-- P holds of the damage, where a run ends as damaged
abbrev pub OnStatusDamage : Status → (Damage → Type 0) → Type 0
OnStatusDamage (status.Damaged damage) P = P damage
OnStatusDamage status.Usage P = Unit {0}
OnStatusDamage status.SourceFault P = Unit {0}
OnStatusDamage status.TooLarge P = Unit {0}
OnStatusDamage status.Done P = Unit {0}
OnStatusDamage (status.SomeRefused count) P = Unit {0}
OnStatusDamage status.SinkFault P = Unit {0}
OnStatusDamage status.Memory P = Unit {0}
OnStatusDamage status.FolderFault P = Unit {0}
