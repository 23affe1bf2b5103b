-- The tree of an index: how a cell is split over and over, and what each leaf says of itself.
use Rattle.std.specs.Prelude.{ℕ, ◌+◌, ◌-◌, ◌/◌, ◌<◌, ◌≤◌, ◌≡◌, true, List, [], ◌∷◌, ◌++◌, length, All, ℤ, ◌≤ℤ◌, pos}
use Rattle.std.specs.Prelude.{slice_index_or, FitsSigned}
use Rattle.std.specs.Int.{w32}
use Rattle.point_codec.specs.Points.{Region, all_le}
use Rattle.point_codec.specs.Cells.{within, left_of, right_of}

pub data IndexTree : Type 0 where
  -- a leaf: how many bytes spell it, and its own cell, in which its entries lie
  Leaf : (length : ℕ) (own : Region) → IndexTree
  -- an inner node: its cell is split at a value in a dimension, and both children keep the value
  Split : (dimension : ℕ) (at : ℤ) (left right : IndexTree) → IndexTree

-- what an inner node says of itself
pub record Cut : Type 0 where
  pub dimension : ℕ
  pub at : ℤ

-- the inner nodes in preorder: each before its left subtree, and that before its right one
abbrev pub cuts_of : IndexTree → List Cut
cuts_of (Leaf n own) = []
cuts_of (Split d x l r) = record { dimension = d; at = x } ∷ cuts_of l ++ cuts_of r

-- the lengths of the leaves from left to right
abbrev pub lengths_of : IndexTree → List ℕ
lengths_of (Leaf n own) = n ∷ []
lengths_of (Split d x l r) = lengths_of l ++ lengths_of r

-- the own cells of the leaves, from left to right
abbrev pub own_cells : IndexTree → List Region
own_cells (Leaf n own) = own ∷ []
own_cells (Split d x l r) = own_cells l ++ own_cells r

abbrev pub leaf_count : IndexTree → ℕ
leaf_count (Leaf n own) = 1
leaf_count (Split d x l r) = leaf_count l + leaf_count r

-- the number of leaves fixes the shape: of n leaves, ceil(n/2) are left (this project's rule for a balanced tree)
abbrev pub IsShaped : ℕ → IndexTree → Type 0
IsShaped n (Leaf length own) = n ≡ 1
IsShaped n (Split d x l r) = (2 ≤ n) × IsShaped (n - n / 2) l × IsShaped (n / 2) r

-- a cell of D dimensions whose coordinates have 32 bits
pub record IsCell (D : ℕ) (r : Region) : Type 0 where
  pub lo_dims : length r.lo ≡ D
  pub hi_dims : length r.hi ≡ D
  pub ordered : all_le r.lo r.hi ≡ true
  pub lo_fits : All (λ x. FitsSigned w32 x) r.lo
  pub hi_fits : All (λ x. FitsSigned w32 x) r.hi

-- the value lies in the cell in the dimension
pub record IsInCell (D : ℕ) (path : Region) (d : ℕ) (x : ℤ) : Type 0 where
  pub dimension : d < D
  pub from : slice_index_or path.lo d (pos 0) ≤ℤ x
  pub to : x ≤ℤ slice_index_or path.hi d (pos 0)

-- in a node whose path cell (the root cell, cut at each split on the way) is this: each split value lies in its
-- node's path cell, and each leaf's own cell lies within its path cell
abbrev pub HasCells : ℕ → Region → IndexTree → Type 0
HasCells D path (Leaf n own) = IsCell D own × (within own path ≡ true)
HasCells D path (Split d x l r) = IsInCell D path d x × HasCells D (left_of path d x) l
    × HasCells D (right_of path d x) r

-- each leaf's own cell is its path cell, as the forms 1 and 2 have it
abbrev pub HasPathCells : Region → IndexTree → Type 0
HasPathCells path (Leaf n own) = own ≡ path
HasPathCells path (Split d x l r) = HasPathCells (left_of path d x) l × HasPathCells (right_of path d x) r

-- the cell of a node: of a leaf its own, of an inner node its path cell
abbrev pub cell_of : Region → IndexTree → Region
cell_of path (Leaf n own) = own
cell_of path (Split d x l r) = path

-- a tree of n leaves of 1 to 4,064 bytes each, over a root cell
pub record IsTree (D n : ℕ) (root : Region) (t : IndexTree) : Type 0 where
  pub some_dims : 1 ≤ D
  pub few_dims : D ≤ 8
  pub some : 1 ≤ n
  pub few : n ≤ 8388608
  pub root_cell : IsCell D root
  pub shaped : IsShaped n t
  pub cells : HasCells D root t
  pub lengths : All (λ length. (1 ≤ length) × (length ≤ 4064)) (lengths_of t)
