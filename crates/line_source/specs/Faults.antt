-- What a read line says of the count of faults of the source.
use Rattle.std.specs.Prelude.{ℕ, ◌≡◌, ◌≤◌, Result, OnOk, IsErrOf}
use Rattle.outer_io.specs.Counts.{Rose}
use Rattle.line_source.specs.declared.faults.ReadFault.{ReadFault}
use Rattle.line_source.specs.declared.faults.ReadFault.TheVariants as read

-- only a failure of the source raises its faults, and a failure always does
pub record HasReadCause {T : Type 0} (before now : ℕ) (result : Result T ReadFault) : Type 0 where
  pub later : before ≤ now
  pub on_ok : OnOk result (now ≡ before)
  pub memory : IsErrOf result read.Memory → now ≡ before
  pub failed : IsErrOf result read.Failed → Rose before now
