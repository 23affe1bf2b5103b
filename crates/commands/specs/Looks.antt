-- How the lines of an input are answered over what a folder stores, and how few pages that reads. No file changes.
use Rattle.std.specs.Prelude.{ℕ, ◌+◌, ◌≡◌, ◌≤◌, List, Result, IsOk, IsTrue}
use Rattle.outer_io.specs.declared.file_name.FileName.TheVariants.{Commit}
use Rattle.outer_io.specs.Files.{Files, bytes_of}
use Rattle.commit_list.specs.Commits.{CommitData}
use Rattle.commit_list.specs.CommitFiles.{IsCommitFile}
use Rattle.segment_file.specs.Heads.{Head}
use Rattle.script_lang.specs.Lines.{lines_of}
use Rattle.index_model.specs.State.{State}
use Rattle.stored_index.specs.Opening.{IsOpening, segments_pages}
use Rattle.stored_index.specs.Stored.{IsStored}
use Rattle.index_opening.specs.Evidence.{IsEvident}
use Rattle.run_status.specs.Causes.{Counts, HasCauses, ReadsInput}
use Rattle.run_status.specs.Ends.{HasStopCause, IsAnswer, IsDamaged, OnStatusDamage, OnStopDamage}
use Rattle.run_status.specs.Told.{EndsLines, EndsTold, Teller, TellsLines, Told}
use Rattle.run_status.specs.declared.status.Status.{Status}
use Rattle.run_status.specs.declared.status.Status.TheVariants as status
use Rattle.run_status.specs.declared.stop.Stop.{Stop}
use Rattle.world.specs.Steps.{Moment, Step}
use Rattle.commands.specs.Opens.{Opens}

-- no more is read than the pages of opening, and a page for each leaf that the lines touch
abbrev pub ReadsFew : {Scope : Type 0} → (is : Scope → Type 0) → (opens : Scope → ℕ → Type 0) → (Scope → Teller)
    → List (List ℕ) → (old new : ℕ) → Type 0
ReadsFew {Scope} is opens tells lines old new =
    (s : Scope) → is s → (pages : ℕ) → opens s pages → (t : Told) → TellsLines (tells s) 1 lines t
    → new ≤ old + pages + t.touched

-- Where this is known, lines are told of each scope that is one of the files, and opening takes so many pages. They are
-- answered only where all that is listed can be opened.
pub record Looks {Scope : Type 0} (known : Type 0) (is : Scope → Type 0) (opens : Scope → ℕ → Type 0)
    (tells : Scope → Teller) (lines : List (List ℕ)) (step : Step) (result : Result ℕ Stop) : Type 0 where
  pub ends : known → (s : Scope) → is s
      → EndsLines (IsTrue step.tells.sink) (tells s) 1 0 lines step.old.written step.new.written result
  pub files : known → step.new.files ≡ step.old.files
  pub opened : known → IsOk result → Opens step.old.files
  pub reads : known → ReadsFew is opens tells lines step.old.reads step.new.reads
  pub cause : HasStopCause step.old.folder_faults step.new.folder_faults step.old.sink_faults step.new.sink_faults
      result
  pub evident : OnStopDamage result (IsEvident known step.old.files)

-- over what the folder stores: opening takes the pages of the commit and of its segments
abbrev pub LooksAll : {Scope : Type 0} → (is : Files → Scope → Type 0) → (Scope → Teller) → List (List ℕ) → Step
    → Result ℕ Stop → Type 0
LooksAll is tells lines step result =
    Looks (IsTrue step.tells.folder) (is step.old.files) (λ s pages. IsOpening step.old.files pages) tells lines step
    result

-- over the index of this commit: opening takes the pages of its segments' heads, indexes and live bits
abbrev pub LooksOver : {Scope : Type 0} → (is : Files → Scope → Type 0) → (heads : Scope → List Head) → (Scope → Teller)
    → CommitData → List (List ℕ) → Step → Result ℕ Stop → Type 0
LooksOver is heads tells c lines step result =
    Looks (IsTrue step.tells.folder × IsCommitFile (bytes_of (step.old.files Commit)) c) (is step.old.files)
    (λ s pages. pages ≡ segments_pages step.old.files c.listed (heads s)) tells lines step result

-- ---- a whole command

-- the faults that were counted
abbrev pub faults_of : Moment → Counts
faults_of m = record { source = m.source_faults; folder = m.folder_faults; sink = m.sink_faults }

-- A command that answers the lines of its input tells what there is to tell of each, reads few pages, changes no file,
-- and answers only where all that is listed can be opened. A damage is one, and a fault rose.
pub record Looked {Scope : Type 0} (is : Files → Scope → Type 0) (tells : Scope → Teller) (step : Step) (s : Status)
    : Type 0 where
  pub never_usage : s ≡ status.Usage → ⊥
  pub ends : IsTrue step.tells.source → IsTrue step.tells.folder → (scope : Scope) → is step.old.files scope
      → EndsTold (IsTrue step.tells.sink) (tells scope) (lines_of step.old.left) step.old.written step.new.written s
  pub files : IsTrue step.tells.folder → step.new.files ≡ step.old.files
  pub opened : IsTrue step.tells.folder → IsAnswer s → Opens step.old.files
  pub reads : IsTrue step.tells.source → IsTrue step.tells.folder
      → ReadsFew (is step.old.files) (λ scope pages. IsOpening step.old.files pages) tells (lines_of step.old.left)
      step.old.reads step.new.reads
  pub input : IsTrue step.tells.source → ReadsInput step.old.left step.new.left s
  pub whole : IsTrue step.tells.folder → (state : State) → IsStored step.old.files state → IsDamaged s → ⊥
  pub evident : OnStatusDamage s (IsEvident (IsTrue step.tells.folder) step.new.files)
  pub causes : HasCauses (faults_of step.old) (faults_of step.new) s
