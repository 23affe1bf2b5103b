-- How a set whose index is explained goes from one place to another.
use Rattle.std.specs.Prelude.{ℕ, ◌+◌, ◌≡◌, ◌≤◌, Bool, List, Option, None, Some, Result, IfOk, Contains}
use Rattle.outer_io.specs.declared.file_name.FileName.TheVariants.{Segment}
use Rattle.outer_io.specs.Files.{Files}
use Rattle.page_cache.specs.declared.faults.PageFault.{PageFault}
use Rattle.page_cache.specs.Causes.{HasPageCause}
use Rattle.page_cache.specs.Evidence.{NotDamaged, OnDamage}
use Rattle.index_model.specs.State.{Index}
use Rattle.segment_view.specs.LiveSegments.{LiveSegment, heads_of}
use Rattle.segment_set.specs.Sets.{SetData}
use Rattle.segment_set.specs.Seen.{Sees}
use Rattle.index_opening.specs.Evidence.{IsEvident, IsOfListed}
use Rattle.segment_set.specs.Faithful.{IsFaithful}
use Rattle.run_status.specs.Told.{Told, IsTold}
use Rattle.explain_queries.specs.Explained.{Scope}

-- the set with these files is seen as the index that is looked at, and its segments have these heads
pub record IsExplaining (D : ℕ) (files : Files) (set : SetData) (s : Scope) : Type 0 where
  pub index : Index
  pub state : s.state ≡ Some index
  pub seen : Sees D files set index
  pub heads : heads_of set.parts ≡ s.heads

-- what the set keeps of the files is theirs, and the commit lists its segments
pub record KnowsFiles (D : ℕ) (files : Files) (s : SetData) : Type 0 where
  pub faithful : IsFaithful D files s
  pub listed : (p : LiveSegment) → Contains s.parts p → IsOfListed files (Segment p.head.id)

-- What is held fits these files: it is of them, and with a scope it is seen as the index of that.
abbrev pub ExplainFits : ℕ → Files → SetData → Option Scope → Type 0
ExplainFits D files set None = KnowsFiles D files set
ExplainFits D files set (Some s) = IsExplaining D files set s

-- this is told of the index that is looked at
abbrev pub InScope : Scope → (Index → Told → Type 0) → Told → Type 0
InScope s tells t = (i : Index) × (s.state ≡ Some i) × tells i t

-- a set between two lines: with the files of its folder, the folder's reads and faults, and the text
pub record ExplainMoment : Type 0 where
  pub set : SetData
  pub files : Files
  pub reads : ℕ
  pub faults : ℕ
  pub text : List ℕ

-- from the one place to the other it is told what there is to tell, no file changes, and no more is read than leaves
-- that are touched
pub record Explains (D : ℕ) (told : Type 0) (tells : Scope → Told → Type 0) (old new : ExplainMoment)
    (result : Result Bool PageFault) : Type 0 where
  pub does : told → (s : Scope) → IsExplaining D old.files old.set s → IfOk result (IsTold (tells s) old.text new.text)
  pub stays : told → (s : Scope) → IsExplaining D old.files old.set s → IsExplaining D new.files new.set s
  pub files : told → new.files ≡ old.files
  pub reads : told → (s : Scope) → IsExplaining D old.files old.set s → (t : Told) → tells s t
      → new.reads ≤ old.reads + t.touched
  pub cause : HasPageCause old.faults new.faults result
  pub whole : told → (s : Scope) → IsExplaining D old.files old.set s → NotDamaged result
  pub knows : told → KnowsFiles D old.files old.set → KnowsFiles D new.files new.set
  pub evident : OnDamage result (IsEvident (told × KnowsFiles D old.files old.set) new.files)
