-- How a batch ends over a folder that stores a state: its text goes out whole, or a prefix of it where the sink fails,
-- or nothing.
use Rattle.std.specs.Prelude.{ℕ, ◌≡◌, ◌⊎◌, ◌≤◌, ◌+◌, ◌/◌, List, length, sum_by}
use Rattle.outer_io.specs.declared.file_name.FileName.TheVariants.{Commit}
use Rattle.outer_io.specs.Files.{Files, bytes_of}
use Rattle.commit_list.specs.Commits.{CommitData}
use Rattle.batch_run.specs.Copies.{IsCommitIn, copied_pages}
use Rattle.outer_io.specs.Parts.{WritesPart}
use Rattle.index_model.specs.State.{State}
use Rattle.stored_index.specs.Stored.{IsStored}
use Rattle.run_status.specs.Told.{Teller, TellsAll, TellsLines, Told}
use Rattle.run_status.specs.declared.status.Status.{Status}
use Rattle.run_status.specs.declared.status.Status.TheVariants as status

-- a prefix of what is told of all lines went out
pub record CutsAll (told : Type 0) (tells : Teller) (lines : List (List ℕ)) (old new : List ℕ) : Type 0 where
  pub of_lines : Told
  pub all : TellsLines tells 1 lines of_lines
  pub text : told → WritesPart old new of_lines.text

abbrev pub EndsBatch : (told : Type 0) → Teller → List (List ℕ) → (old new : List ℕ) → Status → Type 0
EndsBatch told tells lines old new status.Done = TellsAll told tells 1 lines old new 0
EndsBatch told tells lines old new (status.SomeRefused count) = (1 ≤ count) × TellsAll told tells 1 lines old new count
EndsBatch told tells lines old new status.SinkFault = CutsAll told tells lines old new
EndsBatch told tells lines old new status.FolderFault = told → new ≡ old
EndsBatch told tells lines old new status.Memory = told → new ≡ old
EndsBatch told tells lines old new status.Usage = told → new ≡ old
EndsBatch told tells lines old new status.SourceFault = told → new ≡ old
EndsBatch told tells lines old new status.TooLarge = told → new ≡ old
EndsBatch told tells lines old new (status.Damaged damage) = ⊥

-- It ends before anything is written. All is answered before that, so that only an answer or a failing sink leaves a
-- text.
abbrev pub LeavesNoText : Status → Type 0
LeavesNoText status.Usage = Unit {0}
LeavesNoText status.SourceFault = Unit {0}
LeavesNoText status.TooLarge = Unit {0}
LeavesNoText status.FolderFault = Unit {0}
LeavesNoText (status.Damaged damage) = Unit {0}
LeavesNoText status.Memory = Unit {0}
LeavesNoText status.SinkFault = ⊥
LeavesNoText status.Done = ⊥
LeavesNoText (status.SomeRefused count) = ⊥

-- the files store a state
abbrev pub StoresSome : Files → Type 0
StoresSome files = (state : State) × IsStored files state

-- unless the files store a state nothing goes out, and no list of queries is answered
pub record TellsStored (files : Files) (old new : List ℕ) (s : Status) : Type 0 where
  pub unwritten : StoresSome files ⊎ (new ≡ old)
  pub answered : (LeavesNoText s → ⊥) → StoresSome files

-- the pages of the Commit file and of the files that it lists were read once at most
abbrev pub ReadsOnce : Files → (before now : ℕ) → Type 0
ReadsOnce files before now =
    (c : CommitData) → IsCommitIn files c
    → now ≤ before + length (bytes_of (files Commit)) / 4096 + sum_by (copied_pages files) c.listed
