-- What `clean` takes away, what it leaves, and what it tells (this project's own rules).
use Rattle.std.specs.Prelude.{ℕ, ◌+◌, ◌^◌, ◌≡◌, ◌≢◌, ◌<◌, ◌⊎◌, List, ◌++◌, All, AllPairs, length, sum_by}
use Rattle.std.specs.Prelude.{Option, None, Some, codes, decimal}
use Rattle.outer_io.specs.declared.file_name.FileName.{FileName}
use Rattle.outer_io.specs.declared.file_name.FileName.TheVariants.{Commit}
use Rattle.outer_io.specs.Files.{Files, bytes_of}
use Rattle.outer_io.specs.Parts.{WritesPart}
use Rattle.documents.specs.Documents.{Document}
use Rattle.commit_list.specs.Commits.{CommitData}
use Rattle.stored_index.specs.Kept.{ListsFile, SameKept}
use Rattle.stored_index.specs.Stored.{HoldsIndex, IsUndefined}
use Rattle.folder_check.specs.Checked.{none_text}
use Rattle.run_status.specs.declared.status.Status.{Status}
use Rattle.run_status.specs.declared.status.Status.TheVariants as status
use Rattle.clean_folder.specs.declared.removing.Removed.{Removed}

-- ---- what is taken away

-- the file is neither the Commit file nor one that the commit lists
abbrev pub IsUnlisted : CommitData → FileName → Type 0
IsUnlisted c name = (name ≢ Commit) × (ListsFile c name → ⊥)

-- the file is as it was, or gone
abbrev pub Fewer : FileName → (old new : Files) → Type 0
Fewer name old new = (new name ≡ old name) ⊎ (new name ≡ None)

-- some of the files that the commit doesn't list are gone, and nothing else is changed
pub record TakesUnlisted (c : CommitData) (old new : Files) : Type 0 where
  pub others : (name : FileName) → (IsUnlisted c name → ⊥) → new name ≡ old name
  pub fewer : (name : FileName) → Fewer name old new

-- What is kept stays, no file is written, and without a Commit file, or where the files store no state, each stays.
pub record Spares (old new : Files) : Type 0 where
  pub kept : SameKept old new
  pub fewer : (name : FileName) → Fewer name old new
  pub without : old Commit ≡ None → new ≡ old
  pub damaged : IsUndefined old → new ≡ old

-- ---- what is counted

-- 1 for a file that is there
abbrev pub is_there : Option (List ℕ) → ℕ
is_there None = 0
is_there (Some bytes) = 1

abbrev pub size_in : Option (List ℕ) → ℕ
size_in file = length (bytes_of file)

-- so many more were counted, as far as 64 bits hold them
abbrev pub IsCounted : (more before now : ℕ) → Type 0
IsCounted more before now = before + more < 2 ^ 64 → now ≡ before + more

-- of these names, how many files are there
abbrev pub files_of : List FileName → Files → ℕ
files_of names files = sum_by (λ name. is_there (files name)) names

-- and how many bytes they have
abbrev pub sizes_of : List FileName → Files → ℕ
sizes_of names files = sum_by (λ name. size_in (files name)) names

-- what was there is what is still there and what was counted, as far as 64 bits hold it
pub record CountsRemoved (names : List FileName) (old new : Files) (files bytes : ℕ) : Type 0 where
  pub files_are : files_of names old < 2 ^ 64 → files_of names old ≡ files_of names new + files
  pub bytes_are : sizes_of names old < 2 ^ 64 → sizes_of names old ≡ sizes_of names new + bytes

-- the same of one file and what was counted before it
pub record KeepsCount (old new : Option (List ℕ)) (before now : Removed) : Type 0 where
  pub files : before.files + is_there old < 2 ^ 64 → before.files + is_there old ≡ now.files + is_there new
  pub bytes : before.bytes + size_in old < 2 ^ 64 → before.bytes + size_in old ≡ now.bytes + size_in new

-- ---- what is told

unfoldable pub removed_text : (files bytes : ℕ) → List ℕ
removed_text files bytes = codes "removed " ++ decimal files ++ codes " files " ++ decimal bytes ++ codes " bytes\n"

-- The files held the index of their commit; of the named ones those that it doesn't list are gone, and it is told how
-- many they were.
pub record CleansIndex (names : List FileName) (old new : Files) (text : List ℕ) (refused : ℕ) : Type 0 where
  pub commit : CommitData
  pub docs : List Document
  pub holds : HoldsIndex old commit docs
  pub gone : All (λ name. IsUnlisted commit name → new name ≡ None) names
  pub files : ℕ
  pub bytes : ℕ
  pub counts : AllPairs (λ a b. a ≢ b) names → CountsRemoved names old new files bytes
  pub told : text ≡ removed_text files bytes
  pub none : refused ≡ 0

-- there is no Commit file: nothing is done, and that is refused
pub record CleansNone (old new : Files) (text : List ℕ) (refused : ℕ) : Type 0 where
  pub absent : old Commit ≡ None
  pub files : new ≡ old
  pub told : text ≡ none_text
  pub one : refused ≡ 1

abbrev pub IsCleaned : List FileName → (old new : Files) → List ℕ → ℕ → Type 0
IsCleaned names old new text refused = CleansNone old new text refused ⊎ CleansIndex names old new text refused

-- so much of it is told, for some number that is refused
abbrev pub Cleans : List FileName → (old new : Files) → (P : List ℕ → ℕ → Type 0) → Type 0
Cleans names old new P = (text : List ℕ) × (refused : ℕ) × IsCleaned names old new text refused × P text refused

-- What there is to tell went out, or a prefix of it where the sink failed; else nothing did, and where it ends as
-- damaged the files store no state and are as they were. No input is read.
abbrev pub EndsClean : (told : Type 0) → List FileName → (files now : Files) → (old new : List ℕ) → Status → Type 0
EndsClean told names files now old new status.Done =
    Cleans names files now (λ text refused. (told → new ≡ old ++ text) × (refused ≡ 0))
EndsClean told names files now old new (status.SomeRefused count) =
    Cleans names files now (λ text refused. (told → new ≡ old ++ text) × (refused ≡ count))
EndsClean told names files now old new status.SinkFault =
    Cleans names files now (λ text refused. told → WritesPart old new text)
EndsClean told names files now old new (status.Damaged damage) =
    IsUndefined files × (now ≡ files) × (told → new ≡ old)
EndsClean told names files now old new status.FolderFault = told → new ≡ old
EndsClean told names files now old new status.Memory = told → new ≡ old
EndsClean told names files now old new status.Usage = ⊥
EndsClean told names files now old new status.SourceFault = ⊥
EndsClean told names files now old new status.TooLarge = ⊥
