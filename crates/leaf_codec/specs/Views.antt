-- What contracts see of the parts of a leaf that is read in place.
use Rattle.std.specs.Prelude.{ℕ, ◌≡◌, ◌≢◌, ◌⊎◌, Bool, true, false, unwrap_or, map, ◌+◌, ◌-◌, ◌*◌, ◌^◌, ◌<◌, ◌≤◌, List}
use Rattle.std.specs.Prelude.{◌++◌, length, take, drop, slice_index, All, if◌then◌else◌, ◌==◌, nat_lt}
use Rattle.std.specs.Int.{w16, to_be_bytes}
use Rattle.std.specs.List.{range_with_len}
use Rattle.std.specs.List.Sorted.{IsStrictlySortedBy}
use Rattle.point_codec.specs.Points.{Item, Region, in_box}
use Rattle.leaf_codec.specs.Dimensions.{different, shared_prefix, sorted_dimension}
use Rattle.leaf_codec.specs.LeafOrder.{leaf_cmp}
use Rattle.leaf_codec.specs.declared.read_numbers.Numbers.{Numbers}
use Rattle.leaf_codec.specs.declared.read_parts.Parts.{Parts}
use Rattle.leaf_codec.specs.declared.read_parts.Slots.{Slots}
use Rattle.leaf_codec.specs.Spelling.{form, least}
use Rattle.leaf_codec.specs.Words.{AreBytes, number_of}
use Rattle.leaf_codec.specs.Raw.{RawNumbers, AreRawNumbers, numbers_bytes, offset_at, raw_docs, RawKeys, AreRawKeys}
use Rattle.leaf_codec.specs.Raw.{keys_bytes, start_of, gap_of, place_of, raw_items}

abbrev pub raw_numbers_of : Numbers → RawNumbers
raw_numbers_of n = record { width = n.width; least = n.least; offsets = drop 4 n.words.now }

-- numbers that can be read
pub record IsNumbers (n : Numbers) : Type 0 where
  pub few : n.count ≤ 500
  pub long : 4 ≤ length n.words.now
  pub bytes : AreBytes n.words.now
  pub raw : AreRawNumbers n.count (raw_numbers_of n)
  pub mask : n.mask ≡ 256 ^ n.width - 1

-- the fields are those of the numbers that they say, which are document numbers
pub record AreCanonNumbers (count : ℕ) (r : RawNumbers) : Type 0 where
  pub form_is : form (raw_docs count r) ≡ r.width
  pub least_is : least (raw_docs count r) ≡ r.least
  pub small : All (λ d. d < 2 ^ 24) (raw_docs count r)

-- the leaf begins with the count and the numbers, and the keys follow from a place on
pub record BeginsWithNumbers (leaf : List ℕ) (count : ℕ) (n : Numbers) (at : ℕ) : Type 0 where
  pub numbers : IsNumbers n
  pub counted : n.count ≡ count
  pub behind : 4 ≤ at
  pub within : at ≤ length leaf
  pub parts : leaf ≡ to_be_bytes w16 count ++ (numbers_bytes (raw_numbers_of n) ++ drop at leaf)

-- the least and the greatest of the first n numbers, each less the one that is said to be the least
pub record AreBounds (n : ℕ) (r : RawNumbers) (low top : ℕ) : Type 0 where
  pub below : (i : ℕ) → i < n → low ≤ offset_at r i
  pub reached_low : (i : ℕ) × (i < n) × (offset_at r i ≡ low)
  pub above : (i : ℕ) → i < n → offset_at r i ≤ top
  pub reached_top : (i : ℕ) × (i < n) × (offset_at r i ≡ top)

-- the first n numbers less the least: the greatest of them, whether 0 is among them, and whether each is its place
pub record IsSpan (n : ℕ) (r : RawNumbers) (top : ℕ) (from_least row : Bool) : Type 0 where
  pub above : (i : ℕ) → i < n → offset_at r i ≤ top
  pub reached : (top ≡ 0) ⊎ ((i : ℕ) × (i < n) × (offset_at r i ≡ top))
  pub some_zero : from_least ≡ true → (i : ℕ) × (i < n) × (offset_at r i ≡ 0)
  pub no_zero : from_least ≡ false → (i : ℕ) → i < n → offset_at r i ≢ 0
  pub in_row : row ≡ true → (i : ℕ) → i < n → offset_at r i ≡ i
  pub out_of_row : row ≡ false → (i : ℕ) × (i < n) × (offset_at r i ≢ i)

-- ---- the keys

abbrev pub raw_keys_of : Parts → RawKeys
raw_keys_of p =
    record {
      lengths = p.lengths.now;
      prefixes = p.prefixes.now;
      sorted = p.sorted;
      bytes = take p.count p.table;
      rests
          = drop 4 p.words.now;
    }

-- keys that can be read
pub record IsParts (D : ℕ) (p : Parts) : Type 0 where
  pub few : p.count ≤ 500
  pub table : length p.table ≡ 500
  pub long : 4 ≤ length p.words.now
  pub bytes : AreBytes p.words.now
  pub raw : AreRawKeys D p.count (raw_keys_of p)
  pub stride : p.stride ≡ place_of p.lengths.now p.sorted D

-- the bytes are those of the keys
pub record BeginsWithKeys (bytes : List ℕ) (D count : ℕ) (p : Parts) : Type 0 where
  pub keys : IsParts D p
  pub counted : p.count ≡ count
  pub is : bytes ≡ keys_bytes D (raw_keys_of p)

-- what the slots of the parts hold for each dimension: the prefix and then bytes 0, as a number; what a sorted byte
-- counts; the bits of the rest, and where it ends
pub record AreSlots (D : ℕ) (p : Parts) (s : Slots D) : Type 0 where
  pub bases : (d : ℕ) → d < D
      → slice_index s.bases d ≡ number_of
      (take (slice_index p.lengths.now d) (drop (start_of p.lengths.now d) p.prefixes.now)) * 256 ^
      (4 - slice_index p.lengths.now d)
  pub scales : (d : ℕ) → d < D
      → slice_index s.scales d ≡ (if d == p.sorted then 256 ^ gap_of p.lengths.now p.sorted d else 0)
  pub masks : (d : ℕ) → d < D → slice_index s.masks d ≡ 256 ^ gap_of p.lengths.now p.sorted d - 1
  pub places : (d : ℕ) → d < D → slice_index s.places d ≡ place_of p.lengths.now p.sorted (d + 1)

-- ---- the whole

-- fields that can be read
pub record IsReadable (D : ℕ) (n : Numbers) (p : Parts) (s : Slots D) : Type 0 where
  pub some_dims : 1 ≤ D
  pub few_dims : D ≤ 8
  pub numbers : IsNumbers n
  pub keys : IsParts D p
  pub counted : p.count ≡ n.count
  pub slots : AreSlots D p s

-- the items that the fields say
abbrev pub items_said : ℕ → Numbers → Parts → List Item
items_said D n p = raw_items D n.count (raw_numbers_of n) (raw_keys_of p)

-- the prefixes are as long as they can be, and s is the sorted dimension, or D where there is none
pub record AreDimensionsOf (D : ℕ) (items : List Item) (lengths : List ℕ) (s : ℕ) : Type 0 where
  pub lengths_are : map (λ d. shared_prefix d items) (range_with_len 0 D) ≡ lengths
  pub sorted_is : unwrap_or (sorted_dimension D items) D ≡ s

-- from each byte to the next none falls
abbrev pub NeverFall : List ℕ → Type 0
NeverFall bytes = (k : ℕ) → k + 1 < length bytes → slice_index bytes k ≤ slice_index bytes (k + 1)

-- dimension d, where it varies and isn't the sorted one s, is no narrower than that one's spread, and wider before it
abbrev pub IsWide : List Item → List ℕ → ℕ → ℕ → ℕ → Type 0
IsWide items lengths s spread d = d ≢ s → slice_index lengths d < 4
    → spread + (if nat_lt d s then 1 else 0) ≤ different d (slice_index lengths d) items

-- the items ascend by dimension d, and lie in the cell
pub record AscendInside (d : ℕ) (cell : Region) (items : List Item) : Type 0 where
  pub ascending : IsStrictlySortedBy (leaf_cmp d) items
  pub inside : All (λ x. in_box cell x.at ≡ true) items
