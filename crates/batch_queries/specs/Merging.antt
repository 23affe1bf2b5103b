-- How a batch ends beside which the first segments are merged, and what it leaves.
use Rattle.std.specs.Prelude.{ℕ, zero, suc, ◌≡◌, ◌⊎◌, List, [], ◌∷◌, ◌++◌, take, Contains}
use Rattle.outer_io.specs.declared.file_name.FileName.TheVariants.{Segment}
use Rattle.outer_io.specs.Files.{Files}
use Rattle.commit_list.specs.declared.listed.Listed.{Listed}
use Rattle.commit_list.specs.Commits.{CommitData}
use Rattle.index_model.specs.State.{State}
use Rattle.stored_index.specs.Kept.{ListsFile, SameKept}
use Rattle.stored_index.specs.Stored.{IsStored}
use Rattle.index_core.specs.Brought.{KeepsCommit}
use Rattle.index_core.specs.Light.{KeepsLevels}
use Rattle.index_core.specs.Steps.{HasCommit}
use Rattle.index_core.specs.Whole.{HasNewCanonical}
use Rattle.run_status.specs.Ends.{IsAnswer}
use Rattle.run_status.specs.Told.{Teller, TellsAll}
use Rattle.run_status.specs.declared.status.Status.{Status}
use Rattle.run_status.specs.declared.status.Status.TheVariants as status
use Rattle.batch_run.specs.Copies.{IsCommitIn}
use Rattle.batch_queries.specs.Ends.{EndsBatch}

-- ---- which segments are merged

-- the positions below a number, ascending
abbrev pub below : ℕ → List ℕ
below zero = []
below (suc n) = below n ++ n ∷ []

-- those of the segments that are merged: where more than 64 are listed, the first 64 are
abbrev pub merged_count : ℕ
merged_count = 64

-- ---- what is told

-- the text of all lines went out whole, or nothing did
abbrev pub WholeOrNone : (told : Type 0) → Teller → List (List ℕ) → (old new : List ℕ) → Type 0
WholeOrNone told tells lines old new = (told → new ≡ old) ⊎ ((count : ℕ) × TellsAll told tells 1 lines old new count)

-- It ends as a batch does. But the folder may fail, or memory be wanting, after the text has gone out.
abbrev pub EndsMerging : (told : Type 0) → Teller → List (List ℕ) → (old new : List ℕ) → Status → Type 0
EndsMerging told tells lines old new status.FolderFault = WholeOrNone told tells lines old new
EndsMerging told tells lines old new status.Memory = WholeOrNone told tells lines old new
EndsMerging told tells lines old new status.Done = EndsBatch told tells lines old new status.Done
EndsMerging told tells lines old new (status.SomeRefused count) =
    EndsBatch told tells lines old new (status.SomeRefused count)
EndsMerging told tells lines old new status.SinkFault = EndsBatch told tells lines old new status.SinkFault
EndsMerging told tells lines old new status.Usage = EndsBatch told tells lines old new status.Usage
EndsMerging told tells lines old new status.SourceFault = EndsBatch told tells lines old new status.SourceFault
EndsMerging told tells lines old new status.TooLarge = EndsBatch told tells lines old new status.TooLarge
EndsMerging told tells lines old new (status.Damaged damage) = ⊥

-- ---- what is left

-- where the Commit file said a commit, it says one now that lists none of the first segments which that one listed
abbrev pub MergesFirst : Files → Files → Type 0
MergesFirst old new =
    (c : CommitData) → IsCommitIn old c
    → (d : CommitData) × IsCommitIn new d
    × ((l : Listed) → Contains (take merged_count c.listed) l → ListsFile d (Segment l.segment) → ⊥)

-- What is kept is the same, unless all was told: then the commit of the merge may have taken its place.
abbrev pub MergeKeeps : Files → Files → Status → Type 0
MergeKeeps old new status.Done = Unit {0}
MergeKeeps old new (status.SomeRefused count) = Unit {0}
MergeKeeps old new status.FolderFault = SameKept old new ⊎ HasCommit new
MergeKeeps old new status.Memory = SameKept old new ⊎ HasCommit new
MergeKeeps old new _ = SameKept old new

-- Whatever the status, what was stored is stored still, and nothing that is kept is lost but to a whole commit. Where
-- all is answered the first segments are merged, few of each level are listed, and each that is listed anew is
-- canonical.
pub record MergeLeaves (old new : Files) (s : Status) : Type 0 where
  pub stored : (state : State) → IsStored old state → IsStored new state
  pub kept : MergeKeeps old new s
  pub lasting : KeepsCommit old new
  pub merged : IsAnswer s → MergesFirst old new
  pub levels : IsAnswer s → KeepsLevels old new
  pub canon : IsAnswer s → HasNewCanonical old new
