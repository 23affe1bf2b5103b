-- What a segment is written from.
use Rattle.std.specs.Prelude.{ℕ, ◌+◌, ◌≤◌, ◌≡◌, List, [], ◌∷◌, ◌++◌, length}
use Rattle.point_codec.specs.Points.{Item, Region}
use Rattle.leaf_codec.specs.Leaves.{leaf_limit, SpellsLeafIn}
use Rattle.inner_pack.specs.Trees.{IndexTree, Leaf, Split, leaf_count}
use Rattle.inner_pack.specs.Bodies.{Body, HasTree}
use Rattle.segment_file.specs.Heads.{Head, leaves_for, count_of}

-- the leaves of two subtrees and their items, one behind the other
pub record JoinsBoth (left right : List (List ℕ) → List Item → Type 0) (leaves : List (List ℕ)) (items : List Item)
    : Type 0 where
  pub front_leaves : List (List ℕ)
  pub back_leaves : List (List ℕ)
  pub front_items : List Item
  pub back_items : List Item
  pub front_spells : left front_leaves front_items
  pub back_spells : right back_leaves back_items
  pub leaves_joined : leaves ≡ front_leaves ++ back_leaves
  pub items_joined : items ≡ front_items ++ back_items

-- the bytes are those of the leaves of the subtree from left to right, of which the first has this number: each has
-- its length, and spells the count of its number, inside its own cell
abbrev pub SpellsLeaves : (D : ℕ) → Head → (first : ℕ) → IndexTree → List (List ℕ) → List Item → Type 0
SpellsLeaves D head first (Leaf len own) leaves items = (bytes : List ℕ) × (leaves ≡ bytes ∷ []) × (length bytes ≡ len)
    × SpellsLeafIn D bytes (count_of head first) own items
SpellsLeaves D head first (Split d x l r) leaves items =
    JoinsBoth (SpellsLeaves D head first l) (SpellsLeaves D head (first + leaf_count l) r) leaves items

-- the head of these arguments
abbrev pub head_of : (id entries leaf_size : ℕ) → Body → Head
head_of id entries leaf_size index = record { id = id; entries = entries; leaf_size = leaf_size; index = index }

-- these parts are those of a segment with these entries
pub record FitsSegment (D id leaf_size entries : ℕ) (index : Body) (leaves : List (List ℕ)) (items : List Item)
    : Type 0 where
  pub least_leaf : 2 ≤ leaf_size
  pub greatest_leaf : leaf_size ≤ leaf_limit D
  pub some : 1 ≤ entries
  pub few : entries ≤ 16777216
  pub leaves_are : index.leaves ≡ leaves_for entries leaf_size
  pub root : Region
  pub tree : IndexTree
  pub has : HasTree D index root tree
  pub spells : SpellsLeaves D (head_of id entries leaf_size index) 0 tree leaves items

-- these parts are those of some segment
pub record CanWrite (D id leaf_size entries : ℕ) (index : Body) (leaves : List (List ℕ)) : Type 0 where
  pub items : List Item
  pub fits : FitsSegment D id leaf_size entries index leaves items
