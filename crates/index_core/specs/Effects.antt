-- What requests leave of a set once they are done, its documents, segments, buffer, snapshots and begun merge, and what
-- they leave as it is where they are refused.
use Rattle.std.specs.Prelude.{◌≡◌, ◌≤◌, ◌⊎◌, ℕ, true, false, List, [], length, All, Contains, None, Some, Result, Ok}
use Rattle.std.specs.Prelude.{Err}
use Rattle.outer_io.specs.declared.file_name.FileName.{FileName}
use Rattle.outer_io.specs.declared.file_name.FileName.TheVariants.{Segment}
use Rattle.outer_io.specs.Files.{Files}
use Rattle.page_cache.specs.declared.faults.PageFault.{PageFault}
use Rattle.live_bits.specs.LiveSet.{is_live}
use Rattle.documents.specs.Entries.{is_among}
use Rattle.merge_policy.specs.Choice.{free_count}
use Rattle.script_lang.specs.Requests.{Request}
use Rattle.script_lang.specs.Requests as asks
use Rattle.index_model.specs.State.{Index}
use Rattle.index_model.specs.declared.session.Applied.{Applied}
use Rattle.index_model.specs.declared.session.Applied.TheVariants as applied
use Rattle.segment_view.specs.LiveSegments.{Contents, LiveSegment, ids_of}
use Rattle.file_names.specs.Names.{is_named}
use Rattle.segment_set.specs.Sets.{BegunMerge, SetData, pins_of, set_but, set_released, set_snapped, sizes_of}
use Rattle.segment_set.specs.Seen.{Sees, StandsOver}
use Rattle.segment_set.specs.Kept.{AreCanonical, HasCanonical, StaysButMerge}
use Rattle.segment_set.specs.Merged.{IsEnded, IsTidy, chosen_ids, free_ids, free_parts}
use Rattle.segment_set.specs.Merges.{Collects}
use Rattle.segment_set.specs.Settles.{Flushes, MergesParts, moment}
use Rattle.index_core.specs.Sessions.{IsStill, SessionData}
use Rattle.index_core.specs.Arranged.{HasAdded, IsArranged}

-- P holds where the command is done
abbrev pub OnDone : Result Applied PageFault → Type 0 → Type 0
OnDone (Ok applied.Done) P = P
OnDone (Ok (applied.Refused why)) P = Unit {0}
OnDone (Err fault) P = Unit {0}

-- P holds where the command is refused
abbrev pub OnRefused : Result Applied PageFault → Type 0 → Type 0
OnRefused (Ok applied.Done) P = Unit {0}
OnRefused (Ok (applied.Refused why)) P = P
OnRefused (Err fault) P = Unit {0}

-- blank lines and queries change nothing but the kept pages, whatever is answered, and what is refused doesn't either
abbrev pub KeepsStill : (told : Type 0) → Request → (old new : Files) → (s t : SessionData) → Result Applied PageFault
    → Type 0
KeepsStill told asks.Blank old new s t result = IsStill told old new s t
KeepsStill told (asks.InBox view lo hi) old new s t result = IsStill told old new s t
KeepsStill told (asks.InPolygon view rings) old new s t result = IsStill told old new s t
KeepsStill told (asks.Nearest view k target) old new s t result = IsStill told old new s t
KeepsStill told (asks.Create dims leaf_size) old new s t result = OnRefused result (IsStill told old new s t)
KeepsStill told (asks.Add points) old new s t result = OnRefused result (IsStill told old new s t)
KeepsStill told (asks.MergeBegin positions) old new s t result = OnRefused result (IsStill told old new s t)
KeepsStill told asks.MergeEnd old new s t result = OnRefused result (IsStill told old new s t)
KeepsStill told (asks.Snapshot name) old new s t result = OnRefused result (IsStill told old new s t)
KeepsStill told (asks.Release name) old new s t result = OnRefused result (IsStill told old new s t)
KeepsStill told _ old new s t result = Unit {0}

-- Choices of the policy were merged, and what waited went to a segment. No level has more than ten segments that are
-- no inputs of the begun merge, and each segment of a new name is canonical.
pub record IsFlushed (D : ℕ) (told : Type 0) (files new_files : Files) (s t : SetData) : Type 0 where
  pub flushes : Flushes D told (moment files s) (moment new_files t)
  pub emptied : t.buffer ≡ []
  pub levels : (level : ℕ) → free_count level (sizes_of t.parts) (pins_of t.begun t.parts) ≤ 10
  pub begun : t.begun ≡ s.begun
  pub canon : told → AreCanonical D new_files s.names t.parts

-- Of the segments that are no inputs of a begun merge one is left at most, of index form 3, and each of its entries
-- is live. Where it was so already the set stays, and else just these were merged.
pub record IsMergedAll (D : ℕ) (told : Type 0) (files new_files : Files) (s t : SetData) : Type 0 where
  pub buffer : t.buffer ≡ s.buffer
  pub begun : t.begun ≡ s.begun
  pub one : (length (free_parts t) ≤ 1) × All (λ p. p.head.index.form ≡ 3) (free_parts t)
  pub all_live : told → (i : Index) → Sees D files s i → (c : Contents) → StandsOver D new_files c t
      → All (λ p. All (λ x. is_live p.live x.doc ≡ true) (c p.head.id)) (free_parts t)
  pub still : IsTidy s → t ≡ s
  pub merged : IsTidy s ⊎ MergesParts D told (free_ids s) (moment files s) (moment new_files t)
  pub canon : told → AreCanonical D new_files s.names t.parts

-- A merge is begun of the segments at these positions, and all else is as before. What is built of them has no dead
-- entry, and no live number is lost.
pub record HasBegun (D : ℕ) (told : Type 0) (files : Files) (positions : List ℕ) (s t : SetData) : Type 0 where
  pub inputs : (b : BegunMerge) × (t.begun ≡ Some b) × (b.inputs ≡ chosen_ids positions (ids_of s.parts))
  pub built : (b : BegunMerge) → t.begun ≡ Some b → Collects D s.leaf_size told files s.parts b
  pub rest : StaysButMerge s t

-- What the begun merge had built took the place of its inputs: no segment of now has the id of one. What was named is
-- named still.
pub record HasEnded (D : ℕ) (told : Type 0) (files : Files) (s t : SetData) : Type 0 where
  pub ended : t.begun ≡ None
  pub parts : (b : BegunMerge) → s.begun ≡ Some b → IsEnded b s.parts t.parts
  pub gone : (b : BegunMerge) → s.begun ≡ Some b → (p : LiveSegment) → Contains t.parts p
      → is_among b.inputs p.head.id ≡ false
  pub named : (m : FileName) → is_named s.names.names m ≡ true → is_named t.names.names m ≡ true
  pub buffer : t.buffer ≡ s.buffer
  pub canon : told → AreCanonical D files s.names t.parts

-- a segment of now is one of before, with its file as it was
pub record IsOfBefore (old new : Files) (parts : List LiveSegment) (p : LiveSegment) : Type 0 where
  pub part : LiveSegment
  pub was : Contains parts part
  pub head : part.head ≡ p.head
  pub file : new (Segment p.head.id) ≡ old (Segment p.head.id)

-- Each segment of now that isn't one of before is the canonical tree of entries that its file holds. What this says of
-- one call after another it says of all.
abbrev pub BringsCanonical : (D : ℕ) → (old new : Files) → (before now : List LiveSegment) → Type 0
BringsCanonical D old new before now = (p : LiveSegment) → Contains now p → IsOfBefore old new before p
    ⊎ HasCanonical D new p.head

-- what the request leaves of the set, once it is done
abbrev pub Leaves : (D : ℕ) (told : Type 0) → Request → (files new_files : Files) → (s t : SetData) → Type 0
Leaves D told (asks.Add points) files new_files s t = HasAdded D told points files s t
Leaves D told (asks.Delete doc) files new_files s t = t ≡ set_but doc s
Leaves D told asks.Flush files new_files s t = IsFlushed D told files new_files s t
Leaves D told asks.Merge files new_files s t = IsMergedAll D told files new_files s t
Leaves D told (asks.MergeBegin positions) files new_files s t = HasBegun D told files positions s t
Leaves D told asks.MergeEnd files new_files s t = HasEnded D told new_files s t
Leaves D told (asks.Snapshot name) files new_files s t = t ≡ set_snapped name s
Leaves D told (asks.Release name) files new_files s t = t ≡ set_released name s
Leaves D told asks.Commit files new_files s t = IsArranged D told files s t
Leaves D told _ files new_files s t = Unit {0}
