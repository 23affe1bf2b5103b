-- Coordinates that ascend along a leaf's entries.
use Rattle.std.specs.Prelude.{ℕ, ◌≡◌, ◌≤◌, ◌<◌, true, List, length, map, ℤ, pos, int_le, slice_index_or}
use Rattle.point_codec.specs.Points.{Item}

-- the item's coordinate in dimension d
abbrev pub coordinate : ℕ → Item → ℤ
coordinate d x = slice_index_or x.at d (pos 0)

-- the coordinates in dimension d don't descend along the items
abbrev pub AscendIn : ℕ → List Item → Type 0
AscendIn d items = (i j : ℕ) → i ≤ j → j < length items
    → int_le (slice_index_or (map (coordinate d) items) i (pos 0)) (slice_index_or (map (coordinate d) items) j (pos 0))
    ≡ true
