-- What a reader has to know of what was built.
use Rattle.std.specs.Prelude.{ℕ, ◌-◌, ◌*◌, ◌≡◌, ◌<◌, min, List, length, map, slice_index_or}
use Rattle.point_codec.specs.Points.{Item, Region}
use Rattle.leaf_codec.specs.Leaves.{SpellsLeafIn}
use Rattle.inner_pack.specs.Trees.{IndexTree, lengths_of, own_cells}
use Rattle.inner_pack.specs.Bodies.{HasTree}
use Rattle.bkd_build.specs.Canon.{BuiltValue, leaves_for}

-- how many of so many entries leaf k has: as many as a leaf may have, and the last one the rest
abbrev pub size_of_leaf : (leaf_size count k : ℕ) → ℕ
size_of_leaf leaf_size count k = min leaf_size (count - k * leaf_size)

-- leaf by leaf, these are the entries: there are as many leaves as the entries fill, the index tells the lengths of
-- their bytes, and each spells as many entries as it is to have, all of them inside its own cell
pub record AreLeaves (D leaf_size count : ℕ) (b : BuiltValue) (root : Region) (tree : IndexTree)
    (leaves : List (List Item))
    : Type 0 where
  pub index : HasTree D b.index root tree
  pub form : b.index.form ≡ 3
  pub told : b.index.leaves ≡ leaves_for leaf_size count
  pub number : length b.leaves ≡ leaves_for leaf_size count
  pub counted : length leaves ≡ leaves_for leaf_size count
  pub lengths : map (λ bytes. length bytes) b.leaves ≡ lengths_of tree
  pub spelled : (k : ℕ) (bytes : List ℕ) (items : List Item) (own : Region) → k < leaves_for leaf_size count
      → SpellsLeafIn D (slice_index_or b.leaves k bytes) (size_of_leaf leaf_size count k)
      (slice_index_or (own_cells tree) k own) (slice_index_or leaves k items)
