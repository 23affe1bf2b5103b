-- What the answers of a call say of the count of faults of the object that it was made on (this
-- project's rule: a failure of the outside is answered only by a call in which that count rose).
use Rattle.std.specs.Prelude.{◌≡◌, ℕ, ◌≤◌, Result, OnOk, OnErr, IsErrOf}
pub use Rattle.outer_io.specs.Counts.{Rose, RisesByOne}
use Rattle.outer_io.specs.declared.faults.WriteFault.{WriteFault}
use Rattle.outer_io.specs.declared.faults.WriteFault.TheVariants as write
use Rattle.outer_io.specs.declared.faults.ReadAll.{ReadAll}
use Rattle.outer_io.specs.declared.faults.ReadAll.TheVariants as all

-- faults are never forgotten; a call that is done raised none; a call that fails raised some
pub record HasCause {T E : Type 0} (before now : ℕ) (result : Result T E) : Type 0 where
  pub later : before ≤ now
  pub on_ok : OnOk result (now ≡ before)
  pub failed : OnErr result (Rose before now)

-- the same of a call that may want memory, which is no fault of the object
pub record HasWriteCause {T : Type 0} (before now : ℕ) (result : Result T WriteFault) : Type 0 where
  pub later : before ≤ now
  pub on_ok : OnOk result (now ≡ before)
  pub memory : IsErrOf result write.Memory → now ≡ before
  pub failed : IsErrOf result write.Failed → Rose before now

-- the same of reading to the end: only a failure of the source raises its faults
pub record HasReadAllCause {T : Type 0} (before now : ℕ) (result : Result T ReadAll) : Type 0 where
  pub later : before ≤ now
  pub on_ok : OnOk result (now ≡ before)
  pub memory : IsErrOf result all.Memory → now ≡ before
  pub too_large : IsErrOf result all.TooLarge → now ≡ before
  pub failed : IsErrOf result all.Failed → Rose before now
