-- Which segments to merge. Sizes go by levels, each ten times as wide as the one below it, and ten
-- segments of one level are merged into one, as in a log-structured merge tree.
use Rattle.std.specs.Prelude.{◌≡◌, ℕ, zero, suc, ◌*◌, ◌^◌, ◌<◌, ◌≤◌, Bool, true, false, not, ◌&&◌, nat_le, nat_lt, List}
use Rattle.std.specs.Prelude.{length, slice_index, slice_get, Some, count_by, All, Contains}
use Rattle.std.specs.List.{zip}
use Rattle.std.specs.List.Sorted.{IsStrictlyIncreasing}

-- the least size of each level: 0, 1000, 10000, 100000 and so on
abbrev pub least_size : ℕ → ℕ
least_size zero = 0
least_size (suc l) = 1000 * 10 ^ l

-- a level reaches from its least size to below that of the next
abbrev pub is_of_level : ℕ → ℕ → Bool
is_of_level l size = nat_le (least_size l) size && nat_lt size (least_size (suc l))

-- how many sizes of a level are not pinned
unfoldable pub free_count : ℕ → List ℕ → List Bool → ℕ
free_count l sizes pinned = count_by (λ s. is_of_level l s.0 && not s.1) (zip sizes pinned)

-- a position whose size is of the level and not pinned
pub record IsFree (l : ℕ) (sizes : List ℕ) (pinned : List Bool) (i : ℕ) : Type 0 where
  pub in_range : i < length sizes
  pub of_level : is_of_level l (slice_index sizes i) ≡ true
  pub unpinned : slice_get pinned i ≡ Some false

-- the first ten of a level: ten free positions in ascending order, with none left out before any of them
pub record AreFirstTen (l : ℕ) (sizes : List ℕ) (pinned : List Bool) (positions : List ℕ) : Type 0 where
  pub ten : length positions ≡ 10
  pub rising : IsStrictlyIncreasing positions
  pub free : All (IsFree l sizes pinned) positions
  pub first : (i j : ℕ) → IsFree l sizes pinned i → Contains positions j → i < j → Contains positions i

-- the first ten of the lowest level that has ten
pub record IsChoice (sizes : List ℕ) (pinned : List Bool) (positions : List ℕ) : Type 0 where
  pub level : ℕ
  pub has_ten : 10 ≤ free_count level sizes pinned
  pub lowest : (l : ℕ) → l < level → free_count l sizes pinned < 10
  pub chosen : AreFirstTen level sizes pinned positions
