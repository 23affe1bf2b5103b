-- What the keys of a leaf share in each dimension, and the dimension by which the leaf is sorted (prefix and sorted
-- dimension of Lucene's leaf blocks of points).
use Rattle.std.specs.Prelude.{ℕ, ◌+◌, if◌then◌else◌, Bool, ◌&&◌, ◌||◌, not, List, Option, pos, nat_le, nat_lt, ◌==◌}
use Rattle.std.specs.Prelude.{slice_index, slice_index_or}
use Rattle.std.specs.List.{list_any, list_all, find, count_by, position_or_len, range_with_len}
use Rattle.point_codec.specs.Points.{Item}
use Rattle.point_codec.specs.Keys.{key}

-- the sortable key of the item's coordinate in dimension d: four bytes
unfoldable pub key_of : ℕ → Item → List ℕ
key_of d x = key (slice_index_or x.at d (pos 0))

-- byte i of the item's key in dimension d
abbrev pub key_byte : ℕ → ℕ → Item → ℕ
key_byte d i x = slice_index (key_of d x) i

-- how many byte values the test holds of
unfoldable pub count_values : (ℕ → Bool) → ℕ
count_values test = count_by test (range_with_len 0 256)

-- how many different values byte i of the keys in d takes
abbrev pub different : ℕ → ℕ → List Item → ℕ
different d i items = count_values (λ b. list_any (λ x. key_byte d i x == b) items)

-- p(d), the greatest length, up to 4, of a prefix that all keys in d share: the place of the first byte in which they
-- differ
unfoldable pub shared_prefix : ℕ → List Item → ℕ
shared_prefix d items = position_or_len (λ i. nat_lt 1 (different d i items)) (range_with_len 0 4)

-- whether the keys in d differ
abbrev pub varies : List Item → ℕ → Bool
varies items d = nat_lt (shared_prefix d items) 4

-- how many different values the first byte behind the shared prefix takes
abbrev pub spread : List Item → ℕ → ℕ
spread items d = different d (shared_prefix d items) items

-- the least of the dimensions that vary and have no greater spread than any that varies
unfoldable pub narrowest : ℕ → (ℕ → Bool) → (ℕ → ℕ) → Option ℕ
narrowest D varies spread =
    find (λ d. varies d && list_all (λ e. not (varies e) || nat_le (spread d) (spread e)) (range_with_len 0 D))
    (range_with_len 0 D)

-- the sorted dimension. There is none where all points are equal
unfoldable pub sorted_dimension : ℕ → List Item → Option ℕ
sorted_dimension D items = narrowest D (varies items) (spread items)

-- how many bytes of the keys in d stand before the rests, where the shared prefixes have these lengths and s is the
-- sorted dimension
abbrev pub told_of : List ℕ → ℕ → ℕ → ℕ
told_of lengths s d = slice_index lengths d + (if d == s then 1 else 0)
