-- What an index is packed from.
use Rattle.std.specs.Prelude.{ℕ, ◌≡◌, List, map, length, ℤ}
use Rattle.point_codec.specs.Points.{Region}
use Rattle.point_codec.specs.Seen.{region_of}
use Rattle.point_codec.specs.declared.boxes.Cell.{Cell}
use Rattle.inner_pack.specs.Trees.{IndexTree, IsTree, cuts_of, lengths_of, own_cells}

-- the inner nodes in preorder, each as the dimension and the value of its split, and the lengths and own cells of the
-- leaves from left to right are those of the tree
pub record ArePartsOf (D : ℕ) (root : Region) (nodes : List (ℕ × ℤ)) (lengths : List ℕ) (cells : List (Cell D))
    (t : IndexTree) : Type 0 where
  pub tree : IsTree D (length lengths) root t
  pub nodes_are : nodes ≡ map (λ c. (c.dimension, c.at)) (cuts_of t)
  pub lengths_are : lengths ≡ lengths_of t
  pub cells_are : map region_of cells ≡ own_cells t

-- they are those of a tree
pub record AreParts (D : ℕ) (root : Region) (nodes : List (ℕ × ℤ)) (lengths : List ℕ) (cells : List (Cell D))
    : Type 0 where
  pub tree : IndexTree
  pub are : ArePartsOf D root nodes lengths cells tree
