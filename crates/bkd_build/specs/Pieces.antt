-- What the builder carries on its way through the tree.
use Rattle.std.specs.Prelude.{ℕ, ◌^◌, ◌≤◌, ◌<◌, ◌≡◌, List, [], ◌∷◌, ◌++◌, length, map, All, ℤ}
use Rattle.std.specs.List.Sorted.{IsPermutation}
use Rattle.point_codec.specs.Points.{Item, Region}
use Rattle.point_codec.specs.Seen.{items_of, region_of}
use Rattle.point_codec.specs.declared.entries.Entry.{Entry}
use Rattle.leaf_codec.specs.LeafOrder.{NoneTwice}
use Rattle.leaf_codec.specs.Spelling.{spelling}
use Rattle.inner_pack.specs.Trees.{cuts_of, lengths_of, own_cells}
use Rattle.bkd_build.specs.declared.parts.BuiltSubtree.{BuiltSubtree}
use Rattle.bkd_build.specs.Extents.{LieIn}
use Rattle.bkd_build.specs.Canon.{KdTree, entries_of, leaves_of, index_tree_of, IsCanon}

-- what can be built of: some entries, with numbers of three bytes, none of them twice
pub record AreEntries {D : ℕ} (entries : List (Entry D)) : Type 0 where
  pub some : 1 ≤ length entries
  pub numbers : All (λ e. e.doc < 2 ^ 24) entries
  pub once : NoneTwice (items_of entries)

-- what a subtree can be built of: such entries, in a cell that is known to hold them
pub record AreEntriesIn {D : ℕ} (cell : Region) (entries : List (Entry D)) : Type 0 where
  pub are : AreEntries entries
  pub inside : LieIn D cell (items_of entries)

-- what a walk over a tree meets: its inner nodes in preorder as the dimension and the value of their split; and of
-- its leaves from left to right how many bytes spell them, their own cells, and the bytes
pub record Pieces : Type 0 where
  pub nodes : List (ℕ × ℤ)
  pub lengths : List ℕ
  pub cells : List Region
  pub leaves : List (List ℕ)

abbrev pub pieces_of : ℕ → KdTree → Pieces
pieces_of D t = record {
  nodes = map (λ c. (c.dimension, c.at)) (cuts_of (index_tree_of D t));
  lengths = lengths_of (index_tree_of D t);
  cells = own_cells (index_tree_of D t);
  leaves = map (spelling D) (leaves_of t);
}

abbrev pub no_pieces : Pieces
no_pieces = record { nodes = []; lengths = []; cells = []; leaves = [] }

-- that of an inner node alone
abbrev pub one_node : ℕ → ℤ → Pieces
one_node d x = record { nodes = (d, x) ∷ []; lengths = []; cells = []; leaves = [] }

-- those of ps, and then those of qs
abbrev pub joined_pieces : Pieces → Pieces → Pieces
joined_pieces ps qs =
    record {
      nodes = ps.nodes ++ qs.nodes;
      lengths = ps.lengths ++ qs.lengths;
      cells = ps.cells ++ qs.cells;
      leaves
          = ps.leaves ++ qs.leaves;
    }

-- those that a built subtree holds
abbrev pub held_pieces : {D : ℕ} → BuiltSubtree D → Pieces
held_pieces part = record {
  nodes = part.nodes.items;
  lengths = part.lengths.items;
  cells = map region_of part.cells.items;
  leaves
      = part.leaves.items;
}

-- the pieces of a canonical tree of the items came behind those that were there
pub record AddsPieces (D leaf_size : ℕ) (items : List Item) (before after : Pieces) : Type 0 where
  pub tree : KdTree
  pub canon : IsCanon D leaf_size tree
  pub same : IsPermutation items (entries_of tree)
  pub is : after ≡ joined_pieces before (pieces_of D tree)

-- the pieces of a canonical tree of the first items came behind those that were there, and then those of the others
pub record AddsBoth (D leaf_size : ℕ) (firsts others : List Item) (before after : Pieces) : Type 0 where
  pub middle : Pieces
  pub left : AddsPieces D leaf_size firsts before middle
  pub right : AddsPieces D leaf_size others middle after
