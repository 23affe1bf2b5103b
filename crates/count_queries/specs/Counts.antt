-- How lines are counted over the segments of a stored index.
use Rattle.std.specs.Prelude.{ℕ, ◌+◌, ◌≡◌, ◌≤◌, Bool, List, All, Option, None, Some, Result, IfOk}
use Rattle.outer_io.specs.Files.{Files}
use Rattle.outer_io.specs.declared.file_name.FileName.TheVariants.{Segment}
use Rattle.page_cache.specs.declared.cache.PageCache.{PageCache}
use Rattle.page_cache.specs.declared.faults.PageFault.{PageFault}
use Rattle.page_cache.specs.Cache.{Agrees}
use Rattle.page_cache.specs.Causes.{HasPageCause}
use Rattle.page_cache.specs.Evidence.{NotDamaged, OnDamage}
use Rattle.documents.specs.Entries.{AreDocs}
use Rattle.index_model.specs.State.{Index}
use Rattle.segment_view.specs.LiveSegments.{AreRead, Contents, LiveSegment, live_in_parts}
use Rattle.segment_view.specs.Held.{HasOwnHead}
use Rattle.index_opening.specs.Evidence.{IsEvident, IsOfListed}
use Rattle.run_status.specs.Told.{IsTold, Told}
use Rattle.count_queries.specs.Counted.{Scope}

-- these segments with these files hold the documents of the index that is looked at
pub record IsCounting (D : ℕ) (files : Files) (parts : List LiveSegment) (s : Scope) : Type 0 where
  pub index : Index
  pub state : s.state ≡ Some index
  pub dims : index.dims ≡ D
  pub parts_are : s.parts ≡ parts
  pub contents : Contents
  pub read : AreRead D files contents parts
  pub next : ℕ
  pub docs : AreDocs next (live_in_parts contents parts) index.docs

-- this is told of the index that is looked at
abbrev pub InScope : Scope → (Index → Told → Type 0) → Told → Type 0
InScope s tells t = (i : Index) × (s.state ≡ Some i) × tells i t

-- the kept pages agree with the files, the heads are theirs, and the commit lists the segments
abbrev pub AreTrue : ℕ → Files → List LiveSegment → PageCache → Type 0
AreTrue D files parts cache = Agrees files cache × All (HasOwnHead D files) parts
    × All (λ p. IsOfListed files (Segment p.head.id)) parts

-- What is held fits these files: it is of them, and with a scope it holds the documents of that.
abbrev pub CountFits : ℕ → Files → List LiveSegment → PageCache → Option Scope → Type 0
CountFits D files parts cache None = AreTrue D files parts cache
CountFits D files parts cache (Some s) = Agrees files cache × IsCounting D files parts s

-- between two lines: the files, the kept pages, the folder's reads and faults, and the text
pub record CountMoment : Type 0 where
  pub files : Files
  pub cache : PageCache
  pub reads : ℕ
  pub faults : ℕ
  pub text : List ℕ

-- from the one place to the other it is told what there is to tell, no file changes, and no more is read than leaves
-- that are touched
pub record CountsLine (D : ℕ) (told : Type 0) (parts : List LiveSegment) (tells : Scope → Told → Type 0)
    (old new : CountMoment)
    (result : Result Bool PageFault) : Type 0 where
  pub does : told → Agrees old.files old.cache → (s : Scope) → IsCounting D old.files parts s
      → IfOk result (IsTold (tells s) old.text new.text)
  pub files : told → new.files ≡ old.files
  pub agrees : told → Agrees old.files old.cache → Agrees old.files new.cache
  pub reads : (s : Scope) → IsCounting D old.files parts s → (t : Told) → tells s t → new.reads ≤ old.reads + t.touched
  pub cause : HasPageCause old.faults new.faults result
  pub whole : told → Agrees old.files old.cache → (s : Scope) → IsCounting D old.files parts s → NotDamaged result
  pub evident : OnDamage result (IsEvident (told × AreTrue D old.files parts old.cache) old.files)
