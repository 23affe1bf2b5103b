-- A node in the bytes of its form.
use Rattle.std.specs.Prelude.{ℕ, ◌+◌, ◌≤◌, ◌<◌, ◌≡◌, if◌then◌else◌, ◌==◌, List, [], ◌++◌, map, All}
use Rattle.point_codec.specs.Points.{Region}
use Rattle.point_codec.specs.Keys.{key}
use Rattle.inner_pack.specs.Places.{Spot, front}
use Rattle.inner_pack.specs.Trees.{IndexTree, IsShaped, HasCells, HasPathCells, cell_of, lengths_of}
use Rattle.inner_pack.specs.Bodies.{cuts_table, places_table, node_bytes, first_length, pages_of}

-- the bytes of a node with all below it; in form 1 its part of the table of inner nodes
unfoldable pub spelled_part : (form : ℕ) (references : List (List ℕ)) → Spot → IndexTree → List ℕ
spelled_part form references s t = if form == 1 then cuts_table t else node_bytes form references s t

-- in form 1 its part of the table of places
unfoldable pub told_part : (form : ℕ) → Spot → IndexTree → List ℕ
told_part form s t = if form == 1 then places_table s t else []

-- what follows the root cell
unfoldable pub tree_bytes : (form : ℕ) (references : List (List ℕ)) → IndexTree → List ℕ
tree_bytes form references t =
    if form == 1 then cuts_table t ++ places_table front t else node_bytes form references front t

-- these bytes are the subtree of so many leaves, whose first one begins at s, and whose path cell is this
pub record IsNodeOf (D form leaves : ℕ) (s : Spot) (path : Region) (references : List (List ℕ)) (bytes places : List ℕ)
    (t : IndexTree) : Type 0 where
  pub least_form : 1 ≤ form
  pub greatest_form : form ≤ 3
  pub shaped : IsShaped leaves t
  pub fits : s.offset + first_length t ≤ 4064
  pub cells : HasCells D path t
  pub path_cells : form < 3 → HasPathCells path t
  pub lengths : All (λ length. (1 ≤ length) × (length ≤ 4064)) (lengths_of t)
  pub spelled : bytes ≡ spelled_part form references s t
  pub told : places ≡ told_part form s t

-- there is such a subtree, and the cell is that of its root
pub record IsSomeNode (D form leaves : ℕ) (s : Spot) (cell : Region) (references : List (List ℕ))
    (bytes places : List ℕ) : Type 0 where
  pub path : Region
  pub tree : IndexTree
  pub cell_is : cell ≡ cell_of path tree
  pub is : IsNodeOf D form leaves s path references bytes places tree

-- there is one with this path cell
pub record IsSomeTree (D form leaves : ℕ) (s : Spot) (path : Region) (references : List (List ℕ))
    (bytes places : List ℕ) : Type 0 where
  pub tree : IndexTree
  pub is : IsNodeOf D form leaves s path references bytes places tree

-- what follows the root cell is this tree
pub record IsTreeIn (D form leaves : ℕ) (root : Region) (bytes : List ℕ) (t : IndexTree) : Type 0 where
  pub shaped : IsShaped leaves t
  pub cells : HasCells D root t
  pub path_cells : form < 3 → HasPathCells root t
  pub lengths : All (λ length. (1 ≤ length) × (length ≤ 4064)) (lengths_of t)
  pub spelled : bytes ≡ tree_bytes form (map key root.lo) t

-- what follows the root cell is a tree whose leaves take so many pages
pub record IsTreeOf (D form leaves : ℕ) (root : Region) (bytes : List ℕ) (pages : ℕ) : Type 0 where
  pub tree : IndexTree
  pub is : IsTreeIn D form leaves root bytes tree
  pub pages_are : pages ≡ pages_of tree

-- the bytes are those of a node with this path cell, wherever its first leaf begins
pub record IsSomeLeaf (D form leaves : ℕ) (path : Region) (bytes : List ℕ) : Type 0 where
  pub begin : Spot
  pub references : List (List ℕ)
  pub places : List ℕ
  pub tree : IndexTree
  pub is : IsNodeOf D form leaves begin path references bytes places tree
