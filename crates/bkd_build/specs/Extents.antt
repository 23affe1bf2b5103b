-- How far items reach in a dimension.
use Rattle.std.specs.Prelude.{ℕ, ◌≡◌, ◌≤◌, ◌<◌, true, List, length, All, map}
use Rattle.std.specs.Prelude.{ℤ, pos, ◌+ℤ◌, ◌-ℤ◌, ◌≤ℤ◌, unsigned_abs, slice_index_or}
use Rattle.std.specs.List.{Contains}
use Rattle.point_codec.specs.Points.{Item, Region, in_box}

-- the coordinate of an item in dimension d, or 0 where it has none
abbrev pub coordinate : ℕ → Item → ℤ
coordinate d x = slice_index_or x.at d (pos 0)

-- m is the least coordinate d of the items
pub record IsLeast (d : ℕ) (m : ℤ) (items : List Item) : Type 0 where
  pub bound : All (λ x. m ≤ℤ coordinate d x) items
  pub reached : Contains (map (coordinate d) items) m

-- m is the greatest coordinate d of the items
pub record IsGreatest (d : ℕ) (m : ℤ) (items : List Item) : Type 0 where
  pub bound : All (λ x. coordinate d x ≤ℤ m) items
  pub reached : Contains (map (coordinate d) items) m

-- the extent in dimension d is w: the greatest coordinate d less the least
pub record HasExtent (d w : ℕ) (items : List Item) : Type 0 where
  pub least : ℤ
  pub greatest : ℤ
  pub is_least : IsLeast d least items
  pub is_greatest : IsGreatest d greatest items
  pub is : greatest ≡ least +ℤ pos w

-- of D dimensions, d is the one of the greatest extent, and the first of those (the split dimension of the Bkd-tree)
pub record IsWidest (D d : ℕ) (items : List Item) : Type 0 where
  pub dimension : d < D
  pub extent : ℕ
  pub has : HasExtent d extent items
  pub greatest : (e w : ℕ) → e < D → HasExtent e w items → w ≤ extent
  pub first : (e w : ℕ) → e < d → HasExtent e w items → w < extent

-- all items lie in a cell of D dimensions
pub record LieIn (D : ℕ) (r : Region) (items : List Item) : Type 0 where
  pub lo_dims : length r.lo ≡ D
  pub hi_dims : length r.hi ≡ D
  pub each : All (λ x. in_box r x.at ≡ true) items

-- how wide a cell is in dimension d
abbrev pub width : Region → ℕ → ℕ
width r d = unsigned_abs (slice_index_or r.hi d (pos 0) -ℤ slice_index_or r.lo d (pos 0))

-- of the first n dimensions, d is the one in which the cell is widest, and the first of those
pub record IsWidestSide (n d : ℕ) (r : Region) : Type 0 where
  pub dimension : d < n
  pub greatest : (e : ℕ) → e < n → width r e ≤ width r d
  pub first : (e : ℕ) → e < d → width r e < width r d
