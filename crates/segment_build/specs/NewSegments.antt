-- Segments in memory, and the entries that they have.
use Rattle.std.specs.Prelude.{◌≡◌, ℕ, List, length}
use Rattle.point_codec.specs.Points.{Item, Region}
use Rattle.inner_pack.specs.Bodies.{Body, HasTree}
use Rattle.live_bits.specs.LiveSet.{LiveSet}
use Rattle.bkd_build.specs.Canon.{KdTree, Canon, IsBuilt, index_tree_of}
use Rattle.segment_file.specs.Heads.{Head}
use Rattle.segment_file.specs.Written.{FitsSegment}

-- a segment in memory: the index and the bytes of each leaf, how many entries a leaf has and how many there are, and
-- which numbers are live
pub record NewSegmentData : Type 0 where
  pub index : Body
  pub leaves : List (List ℕ)
  pub leaf_size : ℕ
  pub entries : ℕ
  pub live : LiveSet

-- The segment has these entries, in the order of its leaves: their canonical tree, spelled. It has no others
-- (`one_list_of_entries`).
pub record HasEntries (D : ℕ) (items : List Item) (n : NewSegmentData) : Type 0 where
  pub built : IsBuilt D n.leaf_size items (record { index = n.index; leaves = n.leaves })
  pub counted : n.entries ≡ length items
  pub fits : (id : ℕ) → FitsSegment D id n.leaf_size n.entries n.index n.leaves items

-- there are entries of which it is the segment
pub record HasSomeEntries (D : ℕ) (n : NewSegmentData) : Type 0 where
  pub items : List Item
  pub has : HasEntries D items n

-- The head is that of the canonical tree of these entries, with the index in form 3. There is one such index of a
-- leaf size (`one_canonical_index`).
pub record IsCanonical (D : ℕ) (head : Head) (items : List Item) : Type 0 where
  pub root : Region
  pub tree : KdTree
  pub canon : Canon D head.leaf_size items root tree
  pub form : head.index.form ≡ 3
  pub index : HasTree D head.index root (index_tree_of D tree)
