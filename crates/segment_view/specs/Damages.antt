-- What a damage that reading of segments answers shows by what it carries.
use Rattle.std.specs.Prelude.{ℕ, List, Contains}
use Rattle.point_codec.specs.Points.{Region}
use Rattle.inner_pack.specs.Places.{front}
use Rattle.inner_pack.specs.Trees.{IndexTree}
use Rattle.inner_pack.specs.Bodies.{HasTree}
use Rattle.page_cache.specs.declared.faults.Damage.{Damage}
use Rattle.segment_file.specs.Heads.{Head, HasRanges}
use Rattle.segment_file.specs.Damages.{IsLeafDamage}
use Rattle.segment_view.specs.LiveSegments.{LiveSegment}

-- the head may be one of a segment of so many dimensions, its index has a tree, and a leaf of this isn't spelled in
-- its page, or the file ends before the end of the page of a leaf, or a page is none for its place
pub record HasReadDamage (D : ℕ) (head : Head) (d : Damage) : Type 0 where
  pub ranges : HasRanges D head
  pub root : Region
  pub tree : IndexTree
  pub has : HasTree D head.index root tree
  pub shows : IsLeafDamage D head 0 front tree d

abbrev pub IsReadDamage : ℕ → Head → Damage → Type 0
IsReadDamage D head d = ∥ HasReadDamage D head d ∥₁

-- one of the segments has such a leaf
abbrev pub IsPartDamage : ℕ → List LiveSegment → Damage → Type 0
IsPartDamage D parts d = (p : LiveSegment) × Contains parts p × IsReadDamage D p.head d
