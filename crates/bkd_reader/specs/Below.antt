-- A node of a segment's index beside the subtree that it is the root of.
use Rattle.std.specs.Prelude.{ℕ}
use Rattle.point_codec.specs.Points.{Region}
use Rattle.inner_pack.specs.Places.{Spot}
use Rattle.inner_pack.specs.Trees.{IndexTree, HasCells}
use Rattle.inner_pack.specs.Nodes.{IsAt}
use Rattle.inner_pack.specs.declared.node.NodeAt.{NodeAt}

-- the node is the root of this subtree, and each cell of the subtree lies within that of the node above
pub record IsRoot {D : ℕ} (node : NodeAt D) (first : ℕ) (s : Spot) (path : Region) (t : IndexTree) : Type 0 where
  pub is : IsAt node first s path t
  pub cells : HasCells D path t
