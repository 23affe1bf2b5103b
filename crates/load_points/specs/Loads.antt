-- How a load goes from one place to another.
use Rattle.std.specs.Prelude.{ℕ, ◌≡◌, Bool, true, List, None, Some, Result, Contains, IfOk, OnOk}
use Rattle.outer_io.specs.declared.file_name.FileName.TheVariants.{Commit}
use Rattle.outer_io.specs.Files.{Files, bytes_of}
use Rattle.page_cache.specs.declared.faults.PageFault.{PageFault}
use Rattle.page_cache.specs.Causes.{HasPageCause}
use Rattle.page_cache.specs.Evidence.{OnDamage}
use Rattle.commit_list.specs.Commits.{CommitData}
use Rattle.commit_list.specs.CommitFiles.{IsCommitFile}
use Rattle.index_model.specs.State.{Index, State}
use Rattle.index_model.specs.Script.{Answer}
use Rattle.stored_index.specs.Stored.{IsStored}
use Rattle.segment_view.specs.LiveSegments.{LiveSegment}
use Rattle.segment_set.specs.Seen.{Sees}
use Rattle.index_opening.specs.Evidence.{IsEvident}
use Rattle.index_core.specs.Brought.{KeepsCommit}
use Rattle.index_core.specs.KeptLive.{FindsKept, KeepsLive}
use Rattle.index_core.specs.Sessions.{SessionData, Guards, Trusts}
use Rattle.index_core.specs.Light.{KeepsLevels}
use Rattle.index_core.specs.Steps.{KeepsUndone}
use Rattle.index_core.specs.Whole.{DoesWhole, HasNewCanonical, IsNewSegment}
use Rattle.load_points.specs.Loaded.{opened_state}

-- a folder's files, its faults, and the text of the answer
pub record LoadMoment : Type 0 where
  pub files : Files
  pub faults : ℕ
  pub text : List ℕ

-- From the one place to the other a load that starts so is answered so. A refused one changes no file, each segment
-- that is listed anew is canonical, few of each level are listed, what isn't done loses nothing that is kept by files
-- that are trusted, a commit that takes its place is whole and keeps all live that was, and a damage is shown by what
-- it carries, and is true of such files.
pub record Loads (told trusts : Type 0) (Starts : State → Type 0) (answer : State → Answer) (old new : LoadMoment)
    (result : Result Bool PageFault) : Type 0 where
  pub does : told → (stored : State) → Starts stored
      → DoesWhole new.files stored (answer stored) old.text new.text result
  pub unchanged : told → IfOk result (λ refused. refused ≡ true → new.files ≡ old.files)
  pub canon : told → (stored : State) → Starts stored → OnOk result (HasNewCanonical old.files new.files)
  pub levels : told → (stored : State) → Starts stored → OnOk result (KeepsLevels old.files new.files)
  pub undone : told → trusts → KeepsUndone old.files new.files result
  pub lasting : told → trusts → KeepsCommit old.files new.files
  pub lasts : told → trusts → KeepsLive (λ number. ⊥) old.files new.files
  pub cause : HasPageCause old.faults new.faults result
  pub evident : OnDamage result (IsEvident (told × trusts) new.files)

-- ---- where it starts

-- the folder has no commit, so no index is stored
abbrev pub StartsNone : Files → State → Type 0
StartsNone files stored = (stored ≡ None) × (files Commit ≡ None)

-- the index is there that the folder's commit lists
abbrev pub StartsFrom : Files → CommitData → State → Type 0
StartsFrom files commit stored = IsCommitFile (bytes_of (files Commit)) commit
    × ((i : Index) × (stored ≡ Some i) × IsStored files (Some i))

-- an index of so many dimensions is there
abbrev pub HasIndexDims : Files → (dims : ℕ) → State → Type 0
HasIndexDims files dims stored = IsStored files stored × ((i : Index) × (stored ≡ Some i) × (i.dims ≡ dims))

-- A session is open: with these files it is seen as the index that is stored, or as a new one where none is, guards
-- what is kept, and has no segment but those that are listed.
pub record IsLoading (D : ℕ) (files : Files) (s : SessionData) (stored : State) : Type 0 where
  pub index : Index
  pub seen : Sees D files s.set index
  pub guards : Guards D files s
  pub keeps : IsStored files stored
  pub is : opened_state D stored ≡ Some index
  pub listed : (p : LiveSegment) → Contains s.set.parts p → IsNewSegment files p.head.id → ⊥

-- the session can be trusted with the files, and has what their commit keeps live
pub record HasKept (D : ℕ) (files : Files) (s : SessionData) : Type 0 where
  pub trusts : Trusts D files s
  pub finds : FindsKept D files s.set
