-- What the contracts of packing say of its steps.
use Rattle.std.specs.Prelude.{ℕ, ◌+◌, ◌≤◌, ◌≡◌, List, ◌++◌, map, length, reverse, All, ℤ}
use Rattle.point_codec.specs.Points.{Region}
use Rattle.point_codec.specs.Seen.{region_of}
use Rattle.point_codec.specs.declared.boxes.Cell.{Cell}
use Rattle.inner_pack.specs.Places.{Spot, leaf_begin, leaf_spans}
use Rattle.inner_pack.specs.Trees.{IndexTree, IsShaped, HasCells, cuts_of, lengths_of, own_cells}
use Rattle.inner_pack.specs.Bodies.{first_length}
use Rattle.inner_pack.specs.declared.place.LeafPlace.{LeafPlace}
use Rattle.inner_pack.specs.Heads.{placed_of}

-- the leaf page of the leaf, and the offset behind its last byte
abbrev pub end_at : LeafPlace → Spot
end_at p = record { page = p.page; offset = p.offset + p.length }

-- new is old with the bytes at its end, the last of them first
abbrev pub AppendsReversed : (old new bytes : List ℕ) → Type 0
AppendsReversed old new bytes = new ≡ old ++ reverse bytes

-- the inner nodes in preorder and the places and own cells of the leaves are those of a subtree whose first leaf begins
-- at s
pub record IsSubtree (D : ℕ) (s : Spot) (nodes : List (ℕ × ℤ)) (places : List LeafPlace) (cells : List (Cell D))
    (t : IndexTree) : Type 0 where
  pub path : Region
  pub shaped : IsShaped (length places) t
  pub cells_in : HasCells D path t
  pub lengths : All (λ length. (1 ≤ length) × (length ≤ 4064)) (lengths_of t)
  pub begins : leaf_begin s (first_length t) ≡ s
  pub nodes_are : nodes ≡ map (λ c. (c.dimension, c.at)) (cuts_of t)
  pub places_are : map placed_of places ≡ leaf_spans s (lengths_of t)
  pub cells_are : map region_of cells ≡ own_cells t
