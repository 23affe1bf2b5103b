-- Why a run ended so: what it read of its input, and which faults the outside has counted.
use Rattle.std.specs.Prelude.{ℕ, ◌≡◌, ◌≤◌, ◌<◌, ◌^◌, List, [], length}
use Rattle.outer_io.specs.Counts.{Rose}
use Rattle.run_status.specs.Ends.{GoesOn}
use Rattle.run_status.specs.declared.status.Status.{Status}
use Rattle.run_status.specs.declared.status.Status.TheVariants as status

-- an input above 536,870,912 bytes is too large, and nothing else is; what is not refused so was read to its end
pub record ReadsInput (left left_now : List ℕ) (s : Status) : Type 0 where
  pub too_large : s ≡ status.TooLarge → 2 ^ 29 < length left
  pub fits : GoesOn s → length left ≤ 2 ^ 29
  pub whole : GoesOn s → left_now ≡ []

-- the faults that the outside has counted
pub record Counts : Type 0 where
  pub source : ℕ
  pub folder : ℕ
  pub sink : ℕ

-- a fault is answered only where the object whose it is has counted one
pub record HasCauses (before now : Counts) (s : Status) : Type 0 where
  pub source : s ≡ status.SourceFault → Rose before.source now.source
  pub folder : s ≡ status.FolderFault → Rose before.folder now.folder
  pub sink : s ≡ status.SinkFault → Rose before.sink now.sink

-- no object has counted a fault
pub record NoneRose (before now : Counts) : Type 0 where
  pub source : Rose before.source now.source → ⊥
  pub folder : Rose before.folder now.folder → ⊥
  pub sink : Rose before.sink now.sink → ⊥
