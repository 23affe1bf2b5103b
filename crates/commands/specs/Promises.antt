-- How a command ends that reads its whole input before it begins.
use Rattle.std.specs.Prelude.{ℕ, ◌≡◌, ◌⊎◌, List, Result, IsTrue}
use Rattle.outer_io.specs.Counts.{Rose}
use Rattle.script_lang.specs.Lines.{lines_of}
use Rattle.run_status.specs.Causes.{ReadsInput}
use Rattle.run_status.specs.Stops.{status_of}
use Rattle.run_status.specs.declared.status.Status.{Status}
use Rattle.run_status.specs.declared.status.Status.TheVariants as status
use Rattle.run_status.specs.declared.stop.Stop.{Stop}
use Rattle.world.specs.Steps.{Moment, Step}

-- what a command does on lines, and how it ends
abbrev pub Does : Type 1
Does = List (List ℕ) → Step → Result ℕ Stop → Type 0

-- the moment after so much of the input was read
abbrev pub read_to : Moment → (left : List ℕ) → (faults : ℕ) → Moment
read_to m left faults = record m { left = left; source_faults = faults }

-- the input was read, the command was done on its lines, and the status is that of the result
pub record IsDone (does : Does) (step : Step) (s : Status) : Type 0 where
  pub text : List ℕ
  pub read : IsTrue step.tells.source → text ≡ step.old.left
  pub left : List ℕ
  pub faults : ℕ
  pub result : Result ℕ Stop
  pub did : does (lines_of text)
      (record { tells = step.tells; old = read_to step.old left faults; new = step.new }) result
  pub status : s ≡ status_of result

-- the statuses of an input that was not read
abbrev pub IsUnread : Status → Type 0
IsUnread status.SourceFault = Unit {0}
IsUnread status.TooLarge = Unit {0}
IsUnread status.Memory = Unit {0}
IsUnread status.Usage = ⊥
IsUnread status.Done = ⊥
IsUnread (status.SomeRefused count) = ⊥
IsUnread status.FolderFault = ⊥
IsUnread status.SinkFault = ⊥
IsUnread (status.Damaged damage) = ⊥

-- the input was not read, and nothing else was begun
pub record IsNotBegun (step : Step) (s : Status) : Type 0 where
  pub unread : IsUnread s
  pub rest : step.new ≡ read_to step.old step.new.left step.new.source_faults

-- what is promised of a command, whose definition says what it does
pub record Promises (does : Does) (step : Step) (s : Status) : Type 0 where
  pub ends : IsDone does step s ⊎ IsNotBegun step s
  pub input : IsTrue step.tells.source → ReadsInput step.old.left step.new.left s
  pub source : s ≡ status.SourceFault → Rose step.old.source_faults step.new.source_faults
