-- How lines are answered one after the other, by something that holds what it needs of the folder. No file changes.
use Rattle.std.specs.Prelude.{ℕ, ◌+◌, ◌≡◌, ◌≤◌, Bool, List, Option, None, Some, Result, IfOk, IsTrue}
use Rattle.outer_io.specs.Files.{Files}
use Rattle.page_cache.specs.declared.faults.PageFault.{PageFault}
use Rattle.page_cache.specs.Causes.{HasPageCause}
use Rattle.page_cache.specs.Evidence.{NotDamaged, OnDamage}
use Rattle.index_opening.specs.Evidence.{IsEvident}
use Rattle.run_status.specs.Ends.{HasStopCause, OnStopDamage}
use Rattle.run_status.specs.Told.{EndsLines, IsTold, SendsLine, Teller, TellsLines, Told}
use Rattle.run_status.specs.declared.stop.Stop.{Stop}
use Rattle.world.specs.Steps.{Step}

-- What something holds fits files. With None: it is of these files, whatever they are. With a scope: the files store
-- what the scope says, and it is seen as that.
abbrev pub Fit : (It Scope : Type 0) → Type 1
Fit It Scope = It → Files → Option Scope → Type 0

-- where no index is there nothing is held, and what is looked at is bare
abbrev pub IsBare : {Scope : Type 0} → (bare : Scope) → Option Scope → Type 0
IsBare bare None = Unit {0}
IsBare bare (Some s) = s ≡ bare

-- between two lines: what answers, the files, the folder's reads and faults, and the text
pub record LineMoment (It : Type 0) : Type 0 where
  pub it : It
  pub files : Files
  pub reads : ℕ
  pub faults : ℕ
  pub text : List ℕ

-- A line is answered: what there is to tell of it is appended, what is held fits as before, and no more is read than
-- the leaves that the line touches. A damage is shown, and there is none where the files store a scope.
pub record Answered {It Scope : Type 0} (told : Type 0) (fits : Fit It Scope) (tells : Scope → Told → Type 0)
    (old new : LineMoment It) (result : Result Bool PageFault) : Type 0 where
  pub does : told → (s : Scope) → fits old.it old.files (Some s) → IfOk result (IsTold (tells s) old.text new.text)
  pub stays : told → (s : Option Scope) → fits old.it old.files s → fits new.it new.files s
  pub files : told → new.files ≡ old.files
  pub reads : told → (s : Scope) → fits old.it old.files (Some s) → (t : Told) → tells s t
      → new.reads ≤ old.reads + t.touched
  pub cause : HasPageCause old.faults new.faults result
  pub whole : told → (s : Scope) → fits old.it old.files (Some s) → NotDamaged result
  pub evident : OnDamage result (IsEvident (told × fits old.it old.files None) old.files)

-- The same of answers that are sent, by how the text ends.
pub record Runs {It Scope T : Type 0} (fits : Fit It Scope) (ends : Scope → Type 0) (tells : Scope → Told → Type 0)
    (old new : It) (step : Step) (result : Result T Stop) : Type 0 where
  pub does : IsTrue step.tells.folder → (s : Scope) → fits old step.old.files (Some s) → ends s
  pub stays : IsTrue step.tells.folder → (s : Option Scope) → fits old step.old.files s → fits new step.new.files s
  pub files : IsTrue step.tells.folder → step.new.files ≡ step.old.files
  pub reads : IsTrue step.tells.folder → (s : Scope) → fits old step.old.files (Some s) → (t : Told) → tells s t
      → step.new.reads ≤ step.old.reads + t.touched
  pub cause : HasStopCause step.old.folder_faults step.new.folder_faults step.old.sink_faults step.new.sink_faults
      result
  pub evident : OnStopDamage result (IsEvident (IsTrue step.tells.folder × fits old step.old.files None) step.old.files)

-- of a line of this number
abbrev pub RunsLine : {It Scope : Type 0} → Fit It Scope → (Scope → Teller) → (line : ℕ) → List ℕ → (old new : It)
    → Step → Result Bool Stop → Type 0
RunsLine fits tells line bytes old new step result =
    Runs fits (λ s. SendsLine (IsTrue step.tells.sink) (tells s) line bytes step.old.written step.new.written result)
    (λ s t. tells s line bytes t) old new step result

-- of all lines
abbrev pub RunsLines : {It Scope : Type 0} → Fit It Scope → (Scope → Teller) → List (List ℕ) → (old new : It) → Step
    → Result ℕ Stop → Type 0
RunsLines fits tells lines old new step result =
    Runs fits (λ s. EndsLines (IsTrue step.tells.sink) (tells s) 1 0 lines step.old.written step.new.written result)
    (λ s t. TellsLines (tells s) 1 lines t) old new step result
