-- How checking ends, whatever the folder holds.
use Rattle.std.specs.Prelude.{ℕ, ◌+◌, ◌≡◌, ◌≤◌, IsTrue, List, ◌++◌, true}
use Rattle.outer_io.specs.Files.{Files}
use Rattle.outer_io.specs.Parts.{WritesPart}
use Rattle.stored_index.specs.Stored.{IsUndefined}
use Rattle.index_opening.specs.Evidence.{IsFound}
use Rattle.folder_check.specs.Checked.{IsChecked, IsChecking}
use Rattle.folder_check.specs.First.{IsFirst}
use Rattle.folder_check.specs.Informed.{IsInformed, IsInforming}
use Rattle.run_status.specs.Ends.{OnStatusDamage}
use Rattle.run_status.specs.declared.status.Status.{Status}
use Rattle.run_status.specs.declared.status.Status.TheVariants as status

-- What there is to tell of the files went out, or a prefix of it where the sink failed; else nothing did, and where
-- it ends as damaged the files store no state. No line is refused, and no input is read.
abbrev pub EndsTelling : (Tells : List ℕ → Type 0) → (told : Type 0) → Files → (old new : List ℕ) → Status → Type 0
EndsTelling Tells told files old new status.Done = (text : List ℕ) × Tells text × (told → new ≡ old ++ text)
EndsTelling Tells told files old new status.SinkFault = (text : List ℕ) × Tells text × (told → WritesPart old new text)
EndsTelling Tells told files old new (status.Damaged damage) = IsUndefined files × (told → new ≡ old)
EndsTelling Tells told files old new status.FolderFault = told → new ≡ old
EndsTelling Tells told files old new status.Memory = told → new ≡ old
EndsTelling Tells told files old new status.Usage = ⊥
EndsTelling Tells told files old new (status.SomeRefused count) = ⊥
EndsTelling Tells told files old new status.SourceFault = ⊥
EndsTelling Tells told files old new status.TooLarge = ⊥

abbrev pub EndsCheck : (told : Type 0) → Files → (old new : List ℕ) → Status → Type 0
EndsCheck told files old new s = EndsTelling (IsChecked files) told files old new s

abbrev pub EndsInfo : (told : Type 0) → Files → (old new : List ℕ) → Status → Type 0
EndsInfo told files old new s = EndsTelling (IsInformed files) told files old new s

-- checking tells what the files hold, changes none of them, and reads each page of the Commit file and of those that it
-- lists at most once; where it ends as damaged one of these files is named, two numbers are a pair of them, and it is
-- the first damage in the order in which a folder is looked through
pub record Checks (told : Type 0) (old new : Files) (written written_now : List ℕ) (before now : ℕ) (s : Status)
    : Type 0 where
  pub ends : EndsCheck told old written written_now s
  pub files : new ≡ old
  pub reads : (pages : ℕ) → IsChecking old pages → now ≤ before + pages
  pub named : OnStatusDamage s (IsFound old)
  pub first : OnStatusDamage s (IsFirst (IsTrue true) old)

-- `info` tells how large the index is, changes no file, and reads what opening reads and no leaf
pub record Informs (told : Type 0) (old new : Files) (written written_now : List ℕ) (before now : ℕ) (s : Status)
    : Type 0 where
  pub ends : EndsInfo told old written written_now s
  pub files : new ≡ old
  pub reads : (pages : ℕ) → IsInforming old pages → now ≤ before + pages
  pub named : OnStatusDamage s (IsFound old)
