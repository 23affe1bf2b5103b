-- The canonical tree of some entries: cut in halves by the widest dimension down to full leaves (the balanced tree
-- that the bulk loading of the Bkd-tree gives, as in Lucene's index of points).
use Rattle.std.specs.Prelude.{ℕ, ◌+◌, ◌-◌, ◌*◌, ◌/◌, ◌%◌, min, ◌≤◌, ◌<◌, ◌≡◌, List, [], ◌∷◌, ◌++◌, length, map, ℤ}
use Rattle.std.specs.List.Sorted.{IsPermutation}
use Rattle.point_codec.specs.Points.{Item, Region}
use Rattle.point_codec.specs.Cells.{IsLeastCell}
use Rattle.leaf_codec.specs.LeafOrder.{leaf_cmp}
use Rattle.leaf_codec.specs.Leaves.{AreLeaf}
use Rattle.leaf_codec.specs.Spelling.{spelling}
use Rattle.inner_pack.specs.Trees.{IndexTree, Leaf as IndexLeaf, Split as IndexSplit}
use Rattle.inner_pack.specs.Bodies.{Body, HasTree}
use Rattle.bkd_build.specs.Cuts.{AllComeBefore}
use Rattle.bkd_build.specs.Extents.{IsLeast, IsWidest}

pub data KdTree : Type 0 where
  -- a leaf: its entries, and its own cell, in which they lie
  Leaf : (items : List Item) (own : Region) → KdTree
  -- an inner node: where it is split, and its halves
  Split : (dimension : ℕ) (at : ℤ) (left right : KdTree) → KdTree

-- all entries, leaf by leaf
abbrev pub entries_of : KdTree → List Item
entries_of (Leaf items own) = items
entries_of (Split d x l r) = entries_of l ++ entries_of r

-- the entries of each leaf, from left to right
abbrev pub leaves_of : KdTree → List (List Item)
leaves_of (Leaf items own) = items ∷ []
leaves_of (Split d x l r) = leaves_of l ++ leaves_of r

-- the tree without its entries, as an index has it: of a leaf the length of its spelling is left
abbrev pub index_tree_of : ℕ → KdTree → IndexTree
index_tree_of D (Leaf items own) = IndexLeaf (length (spelling D items)) own
index_tree_of D (Split d x l r) = IndexSplit d x (index_tree_of D l) (index_tree_of D r)

-- how many leaves so many entries fill: ceil(count / leaf_size)
abbrev pub leaves_for : (leaf_size count : ℕ) → ℕ
leaves_for leaf_size count = count / leaf_size + min 1 (count % leaf_size)

-- how many of them go left at an inner node: half of the leaves, where their number is odd one more, and all of them
-- full
abbrev pub left_count : (leaf_size count : ℕ) → ℕ
left_count leaf_size count = (leaves_for leaf_size count - leaves_for leaf_size count / 2) * leaf_size

-- a leaf has 1 to `leaf_size` entries in leaf order, and its own cell is the least round them
pub record IsCanonLeaf (D leaf_size : ℕ) (items : List Item) (own : Region) : Type 0 where
  pub few : length items ≤ leaf_size
  pub entries : AreLeaf D items
  pub cell : IsLeastCell (map (λ x. x.at) items) own

-- an inner node has more entries than a leaf, and is split in their widest dimension: the first entries in its order
-- go left, and it is split at the least coordinate of the right ones
pub record IsCanonSplit (D leaf_size d : ℕ) (at : ℤ) (ls rs : List Item) : Type 0 where
  pub many : leaf_size < length (ls ++ rs)
  pub widest : IsWidest D d (ls ++ rs)
  pub rank : length ls ≡ left_count leaf_size (length (ls ++ rs))
  pub apart : AllComeBefore (leaf_cmp d) ls rs
  pub value : IsLeast d at rs

-- each leaf and each inner node is so
abbrev pub IsCanon : (D leaf_size : ℕ) → KdTree → Type 0
IsCanon D leaf_size (Leaf items own) = IsCanonLeaf D leaf_size items own
IsCanon D leaf_size (Split d x l r) = IsCanonSplit D leaf_size d x (entries_of l) (entries_of r) × IsCanon D leaf_size l
    × IsCanon D leaf_size r

-- The tree is the canonical one of these entries, with this root cell. They have one only (`one_canonical_tree`).
pub record Canon (D leaf_size : ℕ) (items : List Item) (root : Region) (t : KdTree) : Type 0 where
  pub canon : IsCanon D leaf_size t
  pub same : IsPermutation items (entries_of t)
  pub cell : IsLeastCell (map (λ x. x.at) items) root

-- what is built: an index, and the bytes of its leaves in order
pub record BuiltValue : Type 0 where
  pub index : Body
  pub leaves : List (List ℕ)

-- It is built of these entries: the index of their canonical tree in form 3, and the spellings of its leaves. There
-- is one such value only (`one_build`).
pub record IsBuilt (D leaf_size : ℕ) (items : List Item) (b : BuiltValue) : Type 0 where
  pub tree : KdTree
  pub root : Region
  pub canon : Canon D leaf_size items root tree
  pub form : b.index.form ≡ 3
  pub index : HasTree D b.index root (index_tree_of D tree)
  pub leaves : b.leaves ≡ map (spelling D) (leaves_of tree)
