-- What a commit says, as plain numbers, and which numbers may stand in one.
use Rattle.std.specs.Prelude.{◌≤◌, ◌<◌, ℕ, ◌+◌, ◌*◌, ◌/◌, ◌^◌, List, length, map, All}
use Rattle.std.specs.List.Sorted.{IsStrictlyIncreasing}
use Rattle.commit_list.specs.declared.listed.Listed.{Listed}

-- the numbers of a commit
pub record CommitData : Type 0 where
  pub dims : ℕ
  pub leaf_size : ℕ
  pub next : ℕ
  pub points_given : ℕ
  pub next_segment : ℕ
  pub listed : List Listed

-- the ids of the listed segments
abbrev pub ids_of : List Listed → List ℕ
ids_of listed = map (λ s. s.segment) listed

-- the ranges of the single numbers: a leaf of points of so many dimensions has at most 4,000 bytes, of which each
-- entry takes 4 for its number and 4 for each coordinate; there are at most 16,777,216 points, and each document has
-- one; at most 200 segments
pub record AreInRange (dims leaf_size next points_given count : ℕ) : Type 0 where
  pub some_dims : 1 ≤ dims
  pub most_dims : dims ≤ 8
  pub least_leaf : 2 ≤ leaf_size
  pub most_leaf : leaf_size ≤ 4000 / (4 + 4 * dims)
  pub numbered : next ≤ points_given
  pub most_given : points_given ≤ 16777216
  pub few : count ≤ 200

-- a segment that a commit may list: it has entries, and no more live ones than it has
pub record IsListed (next_segment : ℕ) (s : Listed) : Type 0 where
  pub id : s.segment < next_segment
  pub some : 1 ≤ s.entries
  pub most : s.entries ≤ 16777216
  pub live : s.live ≤ s.entries

-- segments that a commit may list, in strictly ascending order of their ids
pub record AreListed (next_segment : ℕ) (listed : List Listed) : Type 0 where
  pub rising : IsStrictlyIncreasing (ids_of listed)
  pub each : All (IsListed next_segment) listed

-- the numbers may stand in a commit
pub record IsCommit (c : CommitData) : Type 0 where
  pub ranges : AreInRange c.dims c.leaf_size c.next c.points_given (length c.listed)
  pub segments : AreListed c.next_segment c.listed

-- the numbers that no rule bounds are below 2^64, as their fields hold no more
pub record FitsFields (c : CommitData) : Type 0 where
  pub next_segment : c.next_segment < 2 ^ 64
  pub generations : All (λ s. s.generation < 2 ^ 64) c.listed
