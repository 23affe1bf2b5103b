-- When what a set keeps of its files is theirs, whatever else the files hold.
use Rattle.std.specs.Prelude.{ℕ, All}
use Rattle.outer_io.specs.Files.{Files}
use Rattle.page_cache.specs.Cache.{Agrees}
use Rattle.segment_view.specs.LiveSegments.{LiveSegment}
use Rattle.segment_set.specs.Sets.{SetData}
use Rattle.segment_set.specs.Losing.{KeepsBegun}
use Rattle.index_opening.specs.Evidence.{IsHeadIn}

-- the segment's head is that of its file
abbrev pub HasFileHead : ℕ → Files → LiveSegment → Type 0
HasFileHead D files p = ∥ IsHeadIn files D p.head ∥₁

-- the kept pages are those of the files, and so is the head of each segment of each view; what a begun merge has built
-- loses no document
pub record IsFaithful (D : ℕ) (files : Files) (s : SetData) : Type 0 where
  pub pages : Agrees files s.cache
  pub heads : All (HasFileHead D files) s.parts
  pub kept : All (λ v. All (HasFileHead D files) v.parts) s.snapshots
  pub begun : KeepsBegun D files s
