-- What the bytes of a leaf say, field by field, before it is asked whether they are the spelling of its entries.
use Rattle.std.specs.Prelude.{ℕ, ◌≡◌, ◌+◌, ◌-◌, ◌*◌, ◌^◌, ◌<◌, ◌≤◌, List, [], ◌∷◌, ◌++◌, map, length, take, drop, All}
use Rattle.std.specs.Prelude.{ℤ, if◌then◌else◌, nat_lt, ◌==◌, slice_index}
use Rattle.std.specs.List.{range_with_len, sum_by}
use Rattle.point_codec.specs.Points.{Item}
use Rattle.leaf_codec.specs.Dimensions.{told_of}
use Rattle.leaf_codec.specs.Spelling.{sorted_bytes}
use Rattle.byte_cursor.specs.Vint.{vint}
use Rattle.leaf_codec.specs.Words.{number_of, coordinate, AreBytes}

-- ---- the numbers

-- the form, the least number, and the bytes of each number less the least
pub record RawNumbers : Type 0 where
  pub width : ℕ
  pub least : ℕ
  pub offsets : List ℕ

pub record AreRawNumbers (count : ℕ) (r : RawNumbers) : Type 0 where
  pub narrow : r.width ≤ 3
  pub low : r.least < 2 ^ 24
  pub sized : length r.offsets ≡ count * r.width
  pub bytes : AreBytes r.offsets

abbrev pub numbers_bytes : RawNumbers → List ℕ
numbers_bytes r = r.width ∷ vint r.least ++ r.offsets

-- number i less the least: its place in a row, and else what its bytes spell
abbrev pub offset_at : RawNumbers → ℕ → ℕ
offset_at r i = (if r.width == 0 then i else 0) + number_of (take r.width (drop (i * r.width) r.offsets))

unfoldable pub raw_docs : ℕ → RawNumbers → List ℕ
raw_docs count r = map (λ i. r.least + offset_at r i) (range_with_len 0 count)

-- ---- the keys

-- the lengths of the shared prefixes, the prefixes, the sorted dimension (or the number of dimensions where there is
-- none) and its bytes, and the rests
pub record RawKeys : Type 0 where
  pub lengths : List ℕ
  pub prefixes : List ℕ
  pub sorted : ℕ
  pub bytes : List ℕ
  pub rests : List ℕ

-- where the prefix of dimension d begins among the prefixes
abbrev pub start_of : List ℕ → ℕ → ℕ
start_of lengths d = sum_by (λ e. slice_index lengths e) (range_with_len 0 d)

-- how many bytes of a key in dimension d stand among the rests, where s is the sorted dimension
abbrev pub gap_of : List ℕ → ℕ → ℕ → ℕ
gap_of lengths s d = 4 - told_of lengths s d

-- where those of dimension d begin among an entry's rests; at the number of dimensions, how many the entry has
abbrev pub place_of : List ℕ → ℕ → ℕ → ℕ
place_of lengths s d = sum_by (gap_of lengths s) (range_with_len 0 d)

-- s is a dimension in which a part of the key is shared, or the number of dimensions where all of it is shared in each
pub record MaySort (lengths : List ℕ) (s : ℕ) : Type 0 where
  pub within : s ≤ length lengths
  pub moves : s < length lengths → slice_index lengths s < 4
  pub still : s ≡ length lengths → All (λ n. n ≡ 4) lengths

pub record AreRawKeys (D count : ℕ) (r : RawKeys) : Type 0 where
  pub dims : length r.lengths ≡ D
  pub short : All (λ n. n ≤ 4) r.lengths
  pub total : length r.prefixes ≡ start_of r.lengths D
  pub sorts : MaySort r.lengths r.sorted
  pub counted : length r.bytes ≡ count
  pub sized : length r.rests ≡ count * place_of r.lengths r.sorted D
  pub prefix_bytes : AreBytes r.prefixes
  pub sorted_bytes : AreBytes r.bytes
  pub rest_bytes : AreBytes r.rests

-- the sorted dimension and its bytes, where there is one
abbrev pub sorted_raw : ℕ → ℕ → List ℕ → List ℕ
sorted_raw D s bytes = if nat_lt s D then s ∷ sorted_bytes bytes else []

abbrev pub keys_bytes : ℕ → RawKeys → List ℕ
keys_bytes D r = r.lengths ++ (r.prefixes ++ (sorted_raw D r.sorted r.bytes ++ r.rests))

-- the shared bytes, the sorted one where it is this dimension's, and the rest
unfoldable pub key_at : ℕ → RawKeys → ℕ → ℕ → List ℕ
key_at D r i d = take (slice_index r.lengths d) (drop (start_of r.lengths d) r.prefixes)
    ++ ((if d == r.sorted then slice_index r.bytes i ∷ [] else [])
    ++ take (gap_of r.lengths r.sorted d)
    (drop (i * place_of r.lengths r.sorted D + place_of r.lengths r.sorted d) r.rests))

unfoldable pub point_at : ℕ → RawKeys → ℕ → List ℤ
point_at D r i = map (λ d. coordinate (key_at D r i d)) (range_with_len 0 D)

-- ---- the whole

unfoldable pub raw_item : ℕ → RawNumbers → RawKeys → ℕ → Item
raw_item D numbers keys i = record { doc = numbers.least + offset_at numbers i; at = point_at D keys i }

-- the entries that the fields say
unfoldable pub raw_items : ℕ → ℕ → RawNumbers → RawKeys → List Item
raw_items D count numbers keys = map (raw_item D numbers keys) (range_with_len 0 count)
