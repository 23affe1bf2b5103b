-- What the damage shows that a request answers: by what it carries, and of the files where those are told and the kept
-- pages are theirs.
use Rattle.std.specs.Prelude.{◌≡◌, ◌⊎◌, ℕ, List, Option, Some, Result}
use Rattle.outer_io.specs.Files.{Files}
use Rattle.page_cache.specs.Cache.{Agrees}
use Rattle.page_cache.specs.Evidence.{NotDamaged, OnDamage}
use Rattle.page_cache.specs.declared.faults.PageFault.{PageFault}
use Rattle.commit_list.specs.Commits.{CommitData}
use Rattle.segment_file.specs.Damages.{IsLeafDamageOf}
use Rattle.script_lang.specs.Requests.{Request}
use Rattle.script_lang.specs.Requests as asks
use Rattle.segment_view.specs.LiveSegments.{AreRead, Contents, LiveSegment, live_in_parts}
use Rattle.segment_view.specs.Damages.{IsPartDamage}
use Rattle.segment_set.specs.Sets.{SetData, viewed_parts}
use Rattle.index_opening.specs.Damages.{IsAttachDamage, IsAttachDamageOf}
use Rattle.segment_set.specs.Damages.{IsDoubt, IsMergeDamage, IsMergeDamageOf}
use Rattle.index_core.specs.Sessions.{SessionData}

-- of a search: a leaf of one of the segments
pub record ShowsLeaf {T : Type 0} (D : ℕ) (told : Type 0) (files : Files) (s : SetData) (parts : List LiveSegment)
    (result : Result T PageFault) : Type 0 where
  pub shown : OnDamage result (IsPartDamage D parts)
  pub damage : told → Agrees files s.cache → OnDamage result (IsLeafDamageOf files)

-- Of what may merge: a leaf of a segment, or entries that are none of documents. Where the files hold the segments it
-- is the latter.
pub record ShowsMerge {T : Type 0} (D : ℕ) (told : Type 0) (old new : Files) (s t : SetData)
    (result : Result T PageFault) : Type 0 where
  pub shown : OnDamage result (IsMergeDamage D s.points_given s.names t.names s.parts)
  pub damage : told → Agrees old s.cache → OnDamage result (IsMergeDamageOf new s.points_given)
  pub doubled : told → Agrees old s.cache → (c : Contents) → AreRead D old c s.parts
      → OnDamage result (IsDoubt s.points_given (live_in_parts c s.parts))

-- of what commits and attaches anew: the same, or a damage of a file that the commit lists
pub record ShowsAnew {T : Type 0} (D : ℕ) (told : Type 0) (old new : Files) (s t : SetData)
    (commit : Option CommitData) (result : Result T PageFault) : Type 0 where
  pub shown : OnDamage result
      (λ d. IsMergeDamage D s.points_given s.names t.names s.parts d
      ⊎ ((c : CommitData) × (commit ≡ Some c) × IsAttachDamage c d))
  pub damage : told → Agrees old s.cache
      → OnDamage result
      (λ d. IsMergeDamageOf new s.points_given d ⊎ ((c : CommitData) × (commit ≡ Some c) × IsAttachDamageOf new c d))
  pub doubled : told → Agrees old s.cache → (contents : Contents) → AreRead D old contents s.parts
      → OnDamage result
      (λ d. IsDoubt s.points_given (live_in_parts contents s.parts) d
      ⊎ ((c : CommitData) × (commit ≡ Some c) × IsAttachDamageOf new c d))

-- what the damage shows that the request answers; all else answers none
abbrev pub ShowsDamage : {T : Type 0} → (D : ℕ) (told : Type 0) → Request → (old new : Files) → (s t : SessionData)
    → Result T PageFault → Type 0
ShowsDamage D told (asks.Add points) old new s t result = ShowsMerge D told old new s.set t.set result
ShowsDamage D told (asks.DeleteBox lo hi) old new s t result = ShowsLeaf D told old s.set s.set.parts result
ShowsDamage D told (asks.InBox view lo hi) old new s t result =
    ShowsLeaf D told old s.set (viewed_parts view s.set) result
ShowsDamage D told (asks.InPolygon view rings) old new s t result =
    ShowsLeaf D told old s.set (viewed_parts view s.set) result
ShowsDamage D told (asks.Nearest view k target) old new s t result =
    ShowsLeaf D told old s.set (viewed_parts view s.set) result
ShowsDamage D told asks.Flush old new s t result = ShowsMerge D told old new s.set t.set result
ShowsDamage D told asks.Merge old new s t result = ShowsMerge D told old new s.set t.set result
ShowsDamage D told (asks.MergeBegin positions) old new s t result = ShowsMerge D told old new s.set t.set result
ShowsDamage D told asks.Commit old new s t result = ShowsMerge D told old new s.set t.set result
ShowsDamage D told asks.Reopen old new s t result = ShowsAnew D told old new s.set t.set t.commit result
ShowsDamage D told asks.Blank old new s t result = NotDamaged result
ShowsDamage D told (asks.Create dims leaf_size) old new s t result = NotDamaged result
ShowsDamage D told (asks.Delete doc) old new s t result = NotDamaged result
ShowsDamage D told asks.MergeEnd old new s t result = NotDamaged result
ShowsDamage D told (asks.Snapshot name) old new s t result = NotDamaged result
ShowsDamage D told (asks.Release name) old new s t result = NotDamaged result
