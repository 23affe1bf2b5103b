-- What calls of a set leave and what their faults show, one record for each effect.
use Rattle.std.specs.Prelude.{◌≡◌, ◌≤◌, ◌+◌, ◌↔◌, ◌<◌, ◌^◌, ℕ, List, length, All, None, Some}
use Rattle.std.specs.Prelude.{Result, IfOk, OnOk, OnErr, IsErrOf}
use Rattle.std.specs.List.{AllZip}
use Rattle.outer_io.specs.Files.{Files, bytes_of}
use Rattle.outer_io.specs.declared.file_name.FileName.{FileName}
use Rattle.outer_io.specs.declared.file_name.FileName.TheVariants as file
use Rattle.page_cache.specs.declared.faults.Damage.{Damage}
use Rattle.page_cache.specs.declared.faults.PageFault.{PageFault}
use Rattle.page_cache.specs.Cache.{Agrees}
use Rattle.commit_list.specs.declared.listed.Listed.{Listed}
use Rattle.commit_list.specs.Commits.{CommitData}
use Rattle.commit_list.specs.CommitFiles.{IsCommitFile}
use Rattle.index_model.specs.State.{Index, State, at_rest}
use Rattle.stored_index.specs.Kept.{ListsFile}
use Rattle.stored_index.specs.Stored.{IsStored, IsUndefined}
use Rattle.segment_file.specs.Damages.{IsLeafDamageOf}
use Rattle.segment_file.specs.LiveFiles.{IsLiveFile}
use Rattle.segment_view.specs.LiveSegments.{LiveSegment, Contents, AreRead, live_in_parts}
use Rattle.segment_view.specs.Damages.{IsPartDamage}
use Rattle.index_opening.specs.Damages.{IsAttachDamage, IsAttachDamageOf}
use Rattle.index_opening.specs.Evidence.{IsEvident, IsEvidentOf}
use Rattle.segment_set.specs.declared.faults.AddFault.{AddFault}
use Rattle.segment_set.specs.declared.faults.AddFault.TheVariants as add
use Rattle.segment_set.specs.Sets.{BegunMerge, IsWell, SetData}
use Rattle.segment_set.specs.Seen.{Sees}
use Rattle.segment_set.specs.Kept.{AreCanonical, Follows, IsCommitOf, KeepsNamed, StaysAlone}
use Rattle.segment_set.specs.Merged.{IsEnded}
use Rattle.segment_set.specs.Merges.{Replaces, living}
use Rattle.segment_set.specs.Settles.{SetMoment, IsLeft}
use Rattle.segment_set.specs.Saved.{AreCovering, IsLastOrFresh, KeepsLine}
use Rattle.segment_set.specs.Damages.{IsDoubt, IsEvidentIn, IsMergeDamage, IsMergeDamageOf}
use Rattle.segment_set.specs.Faithful.{IsFaithful}
use Rattle.segment_set.specs.Losing.{IsLossless, KeepsCounts}
use Rattle.segment_set.specs.Faults.{OnAddDamage}

-- Files are written under new names alone. Each segment was there, or is canonical in a file of a new name. No
-- document is lost, and no entry comes from nowhere.
pub record Rewrites (D : ℕ) (told : Type 0) (files new_files : Files) (s t : SetData) : Type 0 where
  pub kept : KeepsNamed told s.names t.names files new_files
  pub follows : Follows s.names s.parts t.parts
  pub canon : told → AreCanonical D new_files s.names t.parts
  pub faithful : told → IsFaithful D files s → IsFaithful D new_files t
  pub loses : told → IsWell D s → IsFaithful D files s → IsLossless D files s t
  pub counts : told → IsWell D s → IsFaithful D files s → KeepsCounts D files new_files s t

-- ---- what a damage shows. `On P` says that P holds of the damage, where the call answers one

-- The damage comes of a merge: where the set is seen as an index there is none; a leaf of a segment is damaged, or the
-- live entries are none of documents.
pub record ShowsMergeDamage (D : ℕ) (told : Type 0) (files new_files : Files) (s t : SetData)
    (On : (Damage → Type 0) → Type 0) : Type 0 where
  pub whole : told → (i : Index) → Sees D files s i → On (λ _. ⊥)
  pub shown : On (IsMergeDamage D s.points_given s.names t.names s.parts)
  pub damage : told → Agrees files s.cache → On (IsMergeDamageOf new_files s.points_given)
  pub doubled : told → Agrees files s.cache → (c : Contents) → AreRead D files c s.parts
      → On (IsDoubt s.points_given (live_in_parts c s.parts))
  pub evident : On (IsEvidentIn D files s.parts (length s.buffer) s.points_given (told × IsFaithful D files s)
      new_files)

-- The damage comes of a query of these segments: where the set is seen as an index there is none; a leaf of one of them
-- is damaged.
pub record ShowsLeafDamage (D : ℕ) (told : Type 0) (files new_files : Files) (s : SetData) (parts : List LiveSegment)
    (On : (Damage → Type 0) → Type 0) : Type 0 where
  pub whole : told → (i : Index) → Sees D files s i → On (λ _. ⊥)
  pub shown : On (IsPartDamage D parts)
  pub damage : told → Agrees files s.cache → On (IsLeafDamageOf files)
  pub evident : On (IsEvidentOf parts (told × IsFaithful D files s) new_files)

-- The damage comes of opening what the commit lists: it is answered where no state is stored, and there alone.
pub record ShowsAttachDamage (told : Type 0) (files : Files) (c : CommitData) (On : (Damage → Type 0) → Type 0)
    : Type 0 where
  pub whole : told → IsCommitFile (bytes_of (files file.Commit)) c → (state : State) → IsStored files state
      → On (λ _. ⊥)
  pub undefined : told → IsCommitFile (bytes_of (files file.Commit)) c → On (λ _. IsUndefined files)
  pub shown : On (IsAttachDamage c)
  pub damage : told → On (IsAttachDamageOf files c)
  pub evident : On (IsEvident (told × IsCommitFile (bytes_of (files file.Commit)) c) files)

-- ---- what single calls do

-- The commit that is answered lists the segments of now. Its files are named. Those of live bits are new but where the
-- last commit lists the segment with as many live numbers, by a file that is named. Where the last commit's lines cover
-- the segments, they hold what is live, and a folder with the commit's files stores the index that the set is seen as.
pub record Saves (D : ℕ) (told : Type 0) (files new_files : Files) (last : List Listed) (s t : SetData)
    (result : Result CommitData PageFault) : Type 0 where
  pub saved : IfOk result (λ c. t.saved ≡ Some c)
  pub commit : IfOk result (IsCommitOf D t)
  pub fresh : IfOk result (λ c. All (IsLastOrFresh s.names last) c.listed)
  pub kept : IfOk result (λ c. All (KeepsLine s.names last) c.listed)
  pub live : told → AreCovering files last s → IfOk result (λ c. AllZip (λ l p. IsLiveFile l.segment l.generation
      (bytes_of (new_files (file.Live l.segment l.generation))) p.live) c.listed t.parts)
  pub stored : told → AreCovering files last s → (i : Index) → Sees D files s i
      → IfOk result (λ c. (now : Files) → IsCommitFile (bytes_of (now file.Commit)) c
      → ((m : FileName) → ListsFile c m → now m ≡ new_files m) → IsStored now (Some (at_rest i)))

-- The begun merge is ended: what it has built takes the place of its inputs.
pub record EndsMerge {T E : Type 0} (D : ℕ) (told : Type 0) (new_files : Files) (s t : SetData) (result : Result T E)
    : Type 0 where
  pub ended : OnOk result (t.begun ≡ None)
  pub parts : (b : BegunMerge) → s.begun ≡ Some b → OnOk result (IsEnded b s.parts t.parts)
  pub replaced : (b : BegunMerge) → s.begun ≡ Some b
      → OnOk result (Replaces D told s.names t.names new_files b.inputs (living b.built) s.parts t.parts)

-- deletions alone: no number is live that wasn't, nor any entry
pub record DeletesAlone (s t : SetData) : Type 0 where
  pub stays : StaysAlone s t
  pub follows : Follows s.names s.parts t.parts
  pub counts : (D : ℕ) (files : Files) → KeepsCounts D files files s t
  pub names : t.names ≡ s.names
  pub saved : t.saved ≡ s.saved

-- Full is answered exactly where too many points would be given, and leaves everything
pub record RefusesFull (told : Type 0) (files new_files : Files) (s t : SetData) (reads new_reads points : ℕ)
    (result : Result ℕ AddFault) : Type 0 where
  pub full : IsErrOf result add.Full ↔ (2 ^ 24 < s.points_given + points)
  pub kept_full : IsErrOf result add.Full → (t ≡ s) × (new_reads ≡ reads)
  pub files_full : told → IsErrOf result add.Full → new_files ≡ files

-- the next number is answered, and its points are counted
pub record GivesNumber (s t : SetData) (points : ℕ) (result : Result ℕ AddFault) : Type 0 where
  pub number : IfOk result (λ n. n ≡ s.next)
  pub points_given : OnOk result ((t.next ≡ s.next + 1) × (t.points_given ≡ s.points_given + points))

-- where the buffer has room nothing is read or written
pub record AddsInRoom (told : Type 0) (files new_files : Files) (s t : SetData) (reads new_reads points : ℕ)
    (result : Result ℕ AddFault) : Type 0 where
  pub unread : length s.buffer + points ≤ 16384 → new_reads ≡ reads
  pub unwritten : told → length s.buffer + points ≤ 16384 → new_files ≡ files
  pub room : length s.buffer + points ≤ 16384 → OnAddDamage result (λ _. ⊥)
  pub parts : length s.buffer + points ≤ 16384
      → (t.parts ≡ s.parts) × (length t.buffer ≤ length s.buffer + points)

-- what adding leaves of the set
pub record AddsAlone (s t : SetData) : Type 0 where
  pub saved : t.saved ≡ s.saved
  pub begun : t.begun ≡ s.begun
  pub snapshots : t.snapshots ≡ s.snapshots
  pub leaf_size : t.leaf_size ≡ s.leaf_size

-- after a fault: what whole merges left
pub record LeavesWhole {T E : Type 0} (Done : SetMoment → Type 0) (s t : SetData) (result : Result T E) : Type 0 where
  pub left : OnErr result (IsLeft Done t)
  pub stays : OnErr result (StaysAlone s t)
