-- What a session does with a command, together with the files of its folder.
use Rattle.std.specs.Prelude.{◌≡◌, ◌⊎◌, ℕ, Bool, true, false, List, [], ◌++◌, Option, None, Some, Result, Ok, Err}
use Rattle.outer_io.specs.declared.file_name.FileName.TheVariants.{Commit}
use Rattle.outer_io.specs.Files.{Files, bytes_of}
use Rattle.page_cache.specs.declared.faults.PageFault.{PageFault}
use Rattle.page_cache.specs.declared.faults.PageFault.TheVariants as page
use Rattle.page_cache.specs.Causes.{HasPageCause}
use Rattle.page_cache.specs.Evidence.{NotDamaged, OnDamage}
use Rattle.commit_list.specs.Commits.{CommitData}
use Rattle.commit_list.specs.CommitFiles.{IsCommitFile}
use Rattle.bkd_reader.specs.Hits.{Begins}
use Rattle.script_lang.specs.Requests.{Request}
use Rattle.script_lang.specs.Requests as asks
use Rattle.index_model.specs.State.{Index, State, at_rest}
use Rattle.index_model.specs.Step.{Outcome, Done, Refused}
use Rattle.index_model.specs.declared.session.Applied.{Applied}
use Rattle.index_model.specs.declared.session.Applied.TheVariants as applied
use Rattle.stored_index.specs.Stored.{IsStored}
use Rattle.stored_index.specs.Kept.{SameKept}
use Rattle.segment_set.specs.Sets.{SetData}
use Rattle.segment_set.specs.Seen.{Sees}
use Rattle.index_core.specs.Brought.{KeepsCommit, KeepsOwn}
use Rattle.index_core.specs.Carried.{IsEvidentOver}
use Rattle.index_core.specs.Sessions.{Guards, IsCommitAnew, IsUnchanged, SessionData, StaysTrue, Trusts}
use Rattle.index_core.specs.Effects.{BringsCanonical, OnDone}
use Rattle.index_core.specs.Light.{CommitsFewOfLevels}

-- the set is seen as the state that a done command leaves
abbrev pub SeesState : ℕ → Files → SetData → State → Type 0
SeesState D files s state = (j : Index) × (state ≡ Some j) × Sees D files s j

-- The session does what the outcome says: it is seen as the state and appends the text, or it is refused for the
-- cause, and is seen as before with the text as before. After a fault it is seen as before.
abbrev pub DoesOver : (D : ℕ) → Files → Outcome → Index → SetData → (before after : List ℕ) → Result Applied PageFault
    → Type 0
DoesOver D files (Done state text) i new before after (Ok applied.Done) = SeesState D files new state
    × (after ≡ before ++ text)
DoesOver D files (Done state text) i new before after (Ok (applied.Refused why)) = ⊥
DoesOver D files (Refused cause) i new before after (Ok applied.Done) = ⊥
DoesOver D files (Refused cause) i new before after (Ok (applied.Refused why)) = (why ≡ cause) × Sees D files new i
    × (after ≡ before)
DoesOver D files (Done state text) i new before after (Err fault) = Sees D files new i
DoesOver D files (Refused cause) i new before after (Err fault) = Sees D files new i

-- the request commits: it is that of `commit`, or of `reopen`
abbrev pub is_committing : Request → Bool
is_committing asks.Commit = true
is_committing asks.Reopen = true
is_committing _ = false

-- the Commit file says this commit
abbrev pub SaysCommit : Files → Option CommitData → Type 0
SaysCommit files commit = (c : CommitData) × (commit ≡ Some c) × IsCommitFile (bytes_of (files Commit)) c

-- Committing leaves the session's commit in the Commit file. After a fault all that is kept is the same, or the
-- commit in flight is there, the one that the set's last save answered.
abbrev pub Commits : {T : Type 0} → Files → Files → SessionData → Result T PageFault → Type 0
Commits old new s (Ok x) = SaysCommit new s.commit
Commits old new s (Err fault) = SameKept old new ⊎ SaysCommit new s.set.saved

-- the Commit file says a commit
abbrev pub HasCommit : Files → Type 0
HasCommit files = (c : CommitData) × IsCommitFile (bytes_of (files Commit)) c

-- After a damage all that is kept is the same. Where the folder failed, or memory was wanting, it is too, or a commit
-- in flight has taken its place.
abbrev pub FaultKeeps : Files → Files → PageFault → Type 0
FaultKeeps old new page.Failed = SameKept old new ⊎ HasCommit new
FaultKeeps old new page.Memory = SameKept old new ⊎ HasCommit new
FaultKeeps old new (page.Damaged damage) = SameKept old new

-- what is not done keeps so
abbrev pub KeepsUndone : {T : Type 0} → Files → Files → Result T PageFault → Type 0
KeepsUndone old new (Ok x) = Unit {0}
KeepsUndone old new (Err fault) = FaultKeeps old new fault

-- all else that is done, or refused, keeps what is kept
abbrev pub KeepsOver : {T : Type 0} → Bool → Files → Files → SessionData → Result T PageFault → Type 0
KeepsOver false old new s result = SameKept old new
KeepsOver true old new s result = Commits old new s result

-- a request that commits has stored what is seen, where it is done, and nothing waits in the buffer; after a fault it
-- has, or all is kept as it was
abbrev pub Stores : {T : Type 0} → Files → Files → Index → SetData → Result T PageFault → Type 0
Stores old new i s (Ok x) = IsStored new (Some (at_rest i)) × (s.buffer ≡ [])
Stores old new i s (Err fault) = SameKept old new ⊎ IsStored new (Some (at_rest i))

-- ---- one step

-- a session between two commands: with the files of its folder, the text of its answers, and the faults of the folder
pub record StepMoment : Type 0 where
  pub files : Files
  pub session : SessionData
  pub text : List ℕ
  pub faults : ℕ

-- what commits rests on the session's guarding of the files; nothing else does
abbrev pub GuardsFor : (committing : Bool) → ℕ → StepMoment → Type 0
GuardsFor committing D place = committing ≡ true → Guards D place.files place.session

-- What the folder keeps changes by a commit alone, which has stored what is seen. Whatever the files hold, a new commit
-- is that of the session's set, and each file that it lists is whole.
pub record OnlyCommits (D : ℕ) (told : Type 0) (committing : Bool) (old new : StepMoment)
    (result : Result Applied PageFault) : Type 0 where
  pub kept : told → Guards D old.files old.session → KeepsOver committing old.files new.files new.session result
  pub stored : told → (i : Index) → Sees D old.files old.session.set i → Guards D old.files old.session
      → committing ≡ true → Stores old.files new.files i new.session.set result
  pub own : told → Guards D old.files old.session → KeepsOwn D told old.files new.files old.session.set
  pub lasting : told → Trusts D old.files old.session → KeepsCommit old.files new.files

-- A request that commits: where nothing was changed no file is, and else the commit is written anew; with no merge
-- begun it lists few segments of each level. Once it is done nothing is changed.
pub record CommitsAnew (told : Type 0) (old new : StepMoment) (result : Result Applied PageFault) : Type 0 where
  pub idle : told → IsUnchanged old.session → new.files ≡ old.files
  pub unchanged : OnDone result (IsUnchanged new.session)
  pub anew : (IsUnchanged old.session → ⊥) → OnDone result (IsCommitAnew old.session new.session)
  pub levels : (IsUnchanged old.session → ⊥) → old.session.set.begun ≡ None
      → OnDone result (CommitsFewOfLevels new.session.commit)

-- a fault has its cause, there is no damage where the files hold what is seen, and a damage is evident
pub record ShowsStepFault (D : ℕ) (told : Type 0) (committing : Bool) (old new : StepMoment)
    (result : Result Applied PageFault) : Type 0 where
  pub cause : HasPageCause old.faults new.faults result
  pub whole : told → (i : Index) → Sees D old.files old.session.set i → GuardsFor committing D old
      → NotDamaged result
  pub evident : OnDamage result
      (IsEvidentOver old.files old.session.set (told × Trusts D old.files old.session) new.files)

-- From the one place to the other the session does what this outcome says, committing or not. Each segment that is
-- written is canonical, whatever is answered.
pub record Applies (D : ℕ) (told : Type 0) (outcome : Index → Outcome) (committing : Bool) (old new : StepMoment)
    (result : Result Applied PageFault) : Type 0 where
  pub does : told → (i : Index) → Sees D old.files old.session.set i → GuardsFor committing D old
      → DoesOver D new.files (outcome i) i new.session.set old.text new.text result
  pub begins : Begins old.text new.text
  pub stays : StaysTrue D told old.files new.files old.session new.session
  pub keeps : OnlyCommits D told committing old new result
  pub commits : committing ≡ true → CommitsAnew told old new result
  pub canon : told → (i : Index) → Sees D old.files old.session.set i → Guards D old.files old.session
      → BringsCanonical D old.files new.files old.session.set.parts new.session.set.parts
  pub faults : ShowsStepFault D told committing old new result
