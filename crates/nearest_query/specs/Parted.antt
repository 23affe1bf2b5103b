-- The entries of a leaf on both sides of a point, in the dimension in which they ascend.
use Rattle.std.specs.Prelude.{ℕ, ◌≡◌, ◌≤◌, ◌<◌, true, List, length, take, drop, All, ℤ, ◌-ℤ◌, pos, int_lt, int_le}
use Rattle.std.specs.Prelude.{slice_index_or}
use Rattle.point_codec.specs.Points.{Item, square}
use Rattle.leaf_codec.specs.Ascending.{AscendIn, coordinate}

-- the square of how far the entry is from the point in dimension d alone
abbrev pub gap2 : ℕ → List ℤ → Item → ℕ
gap2 d at x = square (coordinate d x -ℤ slice_index_or at d (pos 0))

-- the entries, of D dimensions, ascend in dimension d; those before the place are below the point there, and no other
pub record AreParted (D d : ℕ) (at : List ℤ) (place : ℕ) (items : List Item) : Type 0 where
  pub dims : length at ≡ D
  pub dimension : d < D
  pub within : place ≤ length items
  pub points : All (λ x. length x.at ≡ D) items
  pub ascend : AscendIn d items
  pub below : All (λ x. int_lt (coordinate d x) (slice_index_or at d (pos 0)) ≡ true) (take place items)
  pub above : All (λ x. int_le (slice_index_or at d (pos 0)) (coordinate d x) ≡ true) (drop place items)
