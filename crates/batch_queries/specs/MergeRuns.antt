-- How a batch with a merge beside it goes from one place to another: copy and session are opened, the batch is answered
-- while the merge begins, the text goes out, and the merge is ended and committed.
use Rattle.std.specs.Prelude.{ℕ, ◌≡◌, ◌⊎◌, true, false, List, take, Contains, Some, Result, OnOk}
use Rattle.outer_io.specs.Counts.{Rose}
use Rattle.outer_io.specs.declared.file_name.FileName.TheVariants.{Segment}
use Rattle.outer_io.specs.Files.{Files}
use Rattle.documents.specs.Entries.{is_among}
use Rattle.page_cache.specs.declared.faults.PageFault.{PageFault}
use Rattle.page_cache.specs.Causes.{HasPageCause}
use Rattle.page_cache.specs.Evidence.{NotDamaged, OnDamage}
use Rattle.index_model.specs.State.{Index, State, at_rest}
use Rattle.stored_index.specs.Kept.{SameKept}
use Rattle.stored_index.specs.Stored.{IsStored}
use Rattle.index_opening.specs.Evidence.{IsEvident}
use Rattle.segment_view.specs.LiveSegments.{LiveSegment, ids_of}
use Rattle.file_names.specs.Names.{is_named}
use Rattle.segment_set.specs.Sets.{BegunMerge}
use Rattle.segment_set.specs.Seen.{Sees}
use Rattle.index_core.specs.Brought.{KeepsCommit}
use Rattle.index_core.specs.Effects.{BringsCanonical}
use Rattle.index_core.specs.Light.{KeepsLevels}
use Rattle.index_core.specs.Carried.{AreOfListed}
use Rattle.index_core.specs.Sessions.{Guards, IsUnchanged, SessionData, Trusts}
use Rattle.index_core.specs.Steps.{KeepsUndone, SaysCommit}
use Rattle.index_core.specs.Whole.{SessionMoment}
use Rattle.run_status.specs.Ends.{DoesNothing, IsDamaged, OnStatusDamage}
use Rattle.run_status.specs.declared.status.Status.{Status}
use Rattle.run_status.specs.declared.status.Status.TheVariants as status
use Rattle.batch_run.specs.declared.resident.Resident.{Resident}
use Rattle.batch_run.specs.Residents.{IsCopyOf}
use Rattle.batch_queries.specs.Batched.{TellsBatch}
use Rattle.batch_queries.specs.Ends.{TellsStored}
use Rattle.batch_queries.specs.Merging.{EndsMerging, MergeLeaves, merged_count}

-- the folder's files with its faults, and what went out with the faults of the sink
pub record MergeMoment : Type 0 where
  pub files : Files
  pub faults : ℕ
  pub written : List ℕ
  pub sink : ℕ

-- From the one place to the other lines are answered and the first segments merged, over files that are trusted so. A
-- damage is shown by what it carries, and is true of such files.
pub record MergesBatch (told out trusts : Type 0) (lines : List (List ℕ)) (old new : MergeMoment) (s : Status)
    : Type 0 where
  pub done : DoesNothing s → ⊥
  pub ends : told → trusts → (state : State) → IsStored old.files state
      → EndsMerging out (TellsBatch state) lines old.written new.written s
  pub leaves : told → trusts → MergeLeaves old.files new.files s
  pub stored : told → trusts → TellsStored old.files old.written new.written s
  pub whole : told → trusts → (state : State) → IsStored old.files state → IsDamaged s → ⊥
  pub evident : OnStatusDamage s (IsEvident (told × trusts) new.files)
  pub folder : s ≡ status.FolderFault → Rose old.faults new.faults
  pub sink : s ≡ status.SinkFault → Rose old.sink new.sink

-- ---- with a session

-- A resident copy and a session are open over files that store an index, and with them both are of that.
pub record AreOpen (D : ℕ) (files : Files) (r : Resident D) (s : SessionData) : Type 0 where
  pub index : Index
  pub stored : IsStored files (Some index)
  pub copy : (i : Index) → IsStored files (Some i) → IsCopyOf i.docs r
  pub seen : (i : Index) → IsStored files (Some i) → Sees D files s.set i
  pub trusts : Trusts D files s
  pub own : AreOfListed files s.set
  pub unchanged : IsUnchanged s

-- the ids of its first segments
abbrev pub first_ids : SessionData → List ℕ
first_ids s = take merged_count (ids_of s.set.parts)

-- a merge of segments of these ids is begun in a session that is else seen as this index, and they are named
pub record IsBegun (D : ℕ) (files : Files) (s : SessionData) (ids : List ℕ) (i : Index) : Type 0 where
  pub seen : Sees D files s.set (record i { begun = true })
  pub trusts : Trusts D files s
  pub merge : (b : BegunMerge) × (s.set.begun ≡ Some b)
      × ((id : ℕ) → is_among ids id ≡ true → is_among b.inputs id ≡ true)
  pub named : (id : ℕ) → is_among ids id ≡ true → is_named s.set.names.names (Segment id) ≡ true

-- the batch is answered, and the merge of the first segments begun; what is kept stays, whatever is answered
pub record BeginsMerge {T : Type 0} (D : ℕ) (told : Type 0) (r : Resident D) (old new : SessionMoment)
    (result : Result T PageFault) : Type 0 where
  pub begun : told → AreOpen D old.files r old.session → (i : Index) → IsStored old.files (Some i)
      → OnOk result (IsBegun D new.files new.session (first_ids old.session) i)
  pub brings : told → AreOpen D old.files r old.session
      → BringsCanonical D old.files new.files old.session.set.parts new.session.set.parts
  pub kept : told → AreOpen D old.files r old.session → SameKept old.files new.files
  pub whole : told → AreOpen D old.files r old.session → NotDamaged result
  pub cause : HasPageCause old.faults new.faults result
  pub evident : OnDamage result (IsEvident (told × AreOpen D old.files r old.session) new.files)

-- the merge is ended and committed: no segment of now has one of these ids
pub record IsMergeDone (D : ℕ) (ids : List ℕ) (i : Index) (old new : SessionMoment) : Type 0 where
  pub stored : IsStored new.files (Some (at_rest i))
  pub index : Index
  pub seen : Sees D new.files new.session.set index
  pub guards : Guards D new.files new.session
  pub says : SaysCommit new.files new.session.commit
  pub unchanged : IsUnchanged new.session
  pub apart : (p : LiveSegment) → Contains new.session.set.parts p → is_among ids p.head.id ≡ false
  pub brings : BringsCanonical D old.files new.files old.session.set.parts new.session.set.parts
  pub levels : KeepsLevels old.files new.files

-- and after a fault what is kept is the same, or what was stored is there anew
pub record EndsMerge {T : Type 0} (D : ℕ) (told : Type 0) (ids : List ℕ) (i : Index) (old new : SessionMoment)
    (result : Result T PageFault) : Type 0 where
  pub keeps : told → IsBegun D old.files old.session ids i
      → SameKept old.files new.files ⊎ IsStored new.files (Some (at_rest i))
  pub done : told → IsBegun D old.files old.session ids i → OnOk result (IsMergeDone D ids i old new)
  pub undone : told → IsBegun D old.files old.session ids i → KeepsUndone old.files new.files result
  pub lasting : told → IsBegun D old.files old.session ids i → KeepsCommit old.files new.files
  pub whole : told → IsBegun D old.files old.session ids i → NotDamaged result
  pub cause : HasPageCause old.faults new.faults result
  pub evident : OnDamage result (IsEvident (told × Trusts D old.files old.session) new.files)
