-- What calls on a session leave of its folder and of it, whatever they answer, and what a fault of theirs says.
use Rattle.std.specs.Prelude.{◌≡◌, ◌≤◌, ◌+◌, ℕ, Result, None, Some, true, length, IfOk, IsOk, OnOk}
use Rattle.std.specs.Prelude.{OnErr}
use Rattle.outer_io.specs.declared.file_name.FileName.{FileName}
use Rattle.outer_io.specs.declared.file_name.FileName.TheVariants.{Commit, Segment}
use Rattle.outer_io.specs.Files.{Files, bytes_of}
use Rattle.page_cache.specs.Causes.{HasPageCause}
use Rattle.page_cache.specs.Evidence.{NotDamaged, OnDamage}
use Rattle.page_cache.specs.declared.faults.PageFault.{PageFault}
use Rattle.commit_list.specs.Commits.{CommitData}
use Rattle.commit_list.specs.CommitFiles.{IsCommitFile}
use Rattle.script_lang.specs.Requests.{Request}
use Rattle.script_lang.specs.Requests as asks
use Rattle.index_model.specs.State.{Index}
use Rattle.index_model.specs.declared.session.Applied.{Applied}
use Rattle.stored_index.specs.Stored.{HaveLive, IsStored}
use Rattle.index_opening.specs.Evidence.{IsEvident}
use Rattle.file_names.specs.Names.{is_named}
use Rattle.segment_view.specs.LiveSegments.{LiveSegment, lives_of}
use Rattle.segment_set.specs.Seen.{Sees}
use Rattle.segment_set.specs.Faithful.{IsFaithful}
use Rattle.segment_set.specs.Kept.{IsNeeded}
use Rattle.index_core.specs.Arranged.{FaultLeaves}
use Rattle.index_core.specs.Lasting.{Lasts, TakesOut}
use Rattle.index_core.specs.Brought.{KeepsCommit, KeepsOwn}
use Rattle.index_core.specs.Carried.{AreOfListed, IsOfSet}
use Rattle.index_core.specs.Closed.{IsTracked, NamesOnlyListed}
use Rattle.index_core.specs.Costs.{ReadsAtMost}
use Rattle.index_core.specs.Effects.{KeepsStill, OnRefused}
use Rattle.index_core.specs.KeptLive.{FindsKept}
use Rattle.index_core.specs.Light.{CommitsFewOfLevels, IsBarred, KeepsLevels, StaysLight, is_light, points_in}
use Rattle.index_core.specs.Sessions.{Guards, IsCommitAnew, IsSetTraced, IsUnchanged, SessionData, Trusts}
use Rattle.index_core.specs.Steps.{KeepsOver, KeepsUndone, Stores}

-- The last commit is kept, or the one in flight: once it is done the Commit file says it, and what is seen is stored.
-- After a damage all that is kept is as it was. Whatever the files hold, a new commit is that of the session's set, and
-- each file that it lists is whole. No live number goes.
pub record IsDurable {T : Type 0} (D : ℕ) (told : Type 0) (old new : Files) (s t : SessionData)
    (result : Result T PageFault) : Type 0 where
  pub kept : told → Guards D old s → KeepsOver true old new t result
  pub stored : told → (i : Index) → Sees D old s.set i → Guards D old s → Stores old new i t.set result
  pub undone : told → Guards D old s → KeepsUndone old new result
  pub own : told → Guards D old s → KeepsOwn D told old new s.set
  pub lasting : told → Trusts D old s → KeepsCommit old new
  pub lasts : told → IsFaithful D old s.set → Lasts D (λ number. ⊥) old new s.set t.set

-- A done commit: nothing is changed since, its files of live bits hold just what is live, and the list of names has
-- each file that came. Where something was changed it was written anew; with no merge begun it lists few segments of
-- each level.
pub record IsCommitted (D : ℕ) (told : Type 0) (old new : Files) (s t : SessionData) : Type 0 where
  pub unchanged : IsUnchanged t
  pub lives : told → Guards D old s → (c : CommitData) → t.commit ≡ Some c → HaveLive new c (lives_of t.set.parts)
  pub anew : (IsUnchanged s → ⊥) → IsCommitAnew s t
  pub levels : (IsUnchanged s → ⊥) → s.set.begun ≡ None → CommitsFewOfLevels t.commit
  pub few : told → Guards D old s → s.set.begun ≡ None → KeepsLevels old new
  pub tracked : told → (m : FileName) → IsTracked old new s.set.names t.set.names m

-- The session over a commit that the file says is seen as the index that is stored. It knows the files, has what the
-- commit keeps live, and no other segments than it lists. Nothing is changed since this commit, and the list of names
-- has but what the commit lists.
pub record Attaches (D : ℕ) (told : Type 0) (files : Files) (commit : CommitData)
    (result : Result SessionData PageFault) : Type 0 where
  pub seen : told → IsCommitFile (bytes_of (files Commit)) commit → (i : Index) → IsStored files (Some i)
      → IfOk result (λ s. Sees D files s.set i)
  pub guards : told → IsCommitFile (bytes_of (files Commit)) commit → IfOk result (Guards D files)
  pub faithful : told → IfOk result (λ s. IsFaithful D files s.set)
  pub traced : told → IsCommitFile (bytes_of (files Commit)) commit → IfOk result (λ s. IsSetTraced D files s.set)
  pub finds : told → IsCommitFile (bytes_of (files Commit)) commit → IfOk result (λ s. FindsKept D files s.set)
  pub own : told → IsCommitFile (bytes_of (files Commit)) commit → IfOk result (λ s. AreOfListed files s.set)
  pub unchanged : IfOk result IsUnchanged
  pub listed : IfOk result NamesOnlyListed

-- ---- faults

-- a fault has its cause, there is no damage where the files hold what is seen, and a damage is evident
pub record ShowsFault {T : Type 0} (D : ℕ) (told : Type 0) (old new : Files) (s : SessionData) (before now : ℕ)
    (result : Result T PageFault) : Type 0 where
  pub cause : HasPageCause before now result
  pub whole : told → (i : Index) → Sees D old s.set i → NotDamaged result
  pub evident : OnDamage result (IsEvident (told × Trusts D old s) new)

-- a fault has its cause, and is no damage
pub record HasNoDamage {T : Type 0} (before now : ℕ) (result : Result T PageFault) : Type 0 where
  pub cause : HasPageCause before now result
  pub whole : NotDamaged result

-- ---- sweeps

-- No segment's file is changed, of now or of a snapshot. What is in the list of names afterwards the commit or a view
-- needs, and no file is there that isn't in it, but those that weren't before. Where the commit lists all that is in it
-- no file is changed.
pub record SweepsAway {T : Type 0} (told : Type 0) (old new : Files) (s t : SessionData) (result : Result T PageFault)
    : Type 0 where
  pub segments : told → (p : LiveSegment) → IsOfSet s.set p → new (Segment p.head.id) ≡ old (Segment p.head.id)
  pub tracked : told → (m : FileName) → IsTracked old new s.set.names t.set.names m
  pub needed : OnOk result ((m : FileName) → is_named t.set.names.names m ≡ true
      → (c : CommitData) × (s.commit ≡ Some c) × IsNeeded s.set c m)
  pub idle : told → NamesOnlyListed s → new ≡ old

-- ---- requests

-- What a request doesn't do. It reads no more than this, and nothing where it is refused. Blank lines, queries and what
-- is refused leave all but the kept pages; where no segment has to be written the files and segments stay. Where the
-- set alone says that it is refused there is no fault. A fault leaves the set, but that segments may be arranged anew.
-- Whatever is answered, no live number goes that it doesn't take out.
pub record Spares (D : ℕ) (told : Type 0) (r : Request) (old new : Files) (s t : SessionData) (before now : ℕ)
    (result : Result Applied PageFault) : Type 0 where
  pub reads : ReadsAtMost D told r old s before now
  pub unread : OnRefused result (now ≡ before)
  pub still : KeepsStill told r old new s t result
  pub light : is_light r ≡ true → length s.set.buffer + points_in r ≤ 16384
      → StaysLight told (points_in r) old new s t
  pub barred : IsBarred r s.set → IsOk result
  pub left : OnErr result (FaultLeaves D told r old new s.set t.set)
  pub lasts : told → IsFaithful D old s.set → (r ≡ asks.Reopen → Guards D old s)
      → Lasts D (TakesOut r) old new s.set t.set
