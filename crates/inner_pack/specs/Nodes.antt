-- What contracts see of a node that is read in place.
use Rattle.std.specs.Prelude.{ℕ, ◌+◌, ◌≡◌, ℤ}
use Rattle.point_codec.specs.Points.{Region}
use Rattle.point_codec.specs.Seen.{region_of}
use Rattle.point_codec.specs.Cells.{left_of, right_of}
use Rattle.inner_pack.specs.Places.{Spot}
use Rattle.inner_pack.specs.Trees.{IndexTree, Leaf, Split, cell_of, leaf_count}
use Rattle.inner_pack.specs.Bodies.{right_begin}
use Rattle.inner_pack.specs.Spelled.{IsNodeOf}
use Rattle.inner_pack.specs.declared.node.NodeAt.{NodeAt}
use Rattle.inner_pack.specs.declared.place.LeafPlace.{LeafPlace}

-- the node is the root of this subtree: of the leaves in order its first one has this number and begins at s, and its
-- path cell is this
pub record IsAt {D : ℕ} (node : NodeAt D) (first : ℕ) (s : Spot) (path : Region) (t : IndexTree) : Type 0 where
  pub first_is : node.first ≡ first
  pub page_is : node.page ≡ s.page
  pub offset_is : node.offset ≡ s.offset
  pub cell_is : region_of node.cell ≡ cell_of path t
  pub is : IsNodeOf D node.form node.leaves s path node.references node.bytes.now node.places.now t

-- the children of the node are those of the tree, which is an inner node
pub record AreChildren {D : ℕ} (left right : NodeAt D) (first : ℕ) (s : Spot) (path : Region) (t : IndexTree)
    : Type 0 where
  pub dimension : ℕ
  pub value : ℤ
  pub l : IndexTree
  pub r : IndexTree
  pub is : t ≡ Split dimension value l r
  pub left_is : IsAt left first s (left_of path dimension value) l
  pub right_is : IsAt right (first + leaf_count l) (right_begin s l r) (right_of path dimension value) r

-- the tree is a leaf, which stands here
pub record IsPlaceOf (p : LeafPlace) (s : Spot) (t : IndexTree) : Type 0 where
  pub own : Region
  pub is : t ≡ Leaf p.length own
  pub page : p.page ≡ s.page
  pub offset : p.offset ≡ s.offset
