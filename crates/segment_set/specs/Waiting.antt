-- The entries that a buffer has in memory. One that is taken out stays at its place, with a number greater by 2 ^ 31,
-- until the buffer is gone over.
use Rattle.std.specs.Prelude.{◌≡◌, ◌<◌, ◌+◌, ◌-◌, ℕ, Bool, nat_eq, nat_lt, if◌then◌else◌, List, length, filter, All}
use Rattle.std.specs.List.Sorted.{IsNonDecreasingBy}
use Rattle.point_codec.specs.Points.{Item}

-- the number of the next document, the entries that wait for a segment, and how many in memory are gone
pub record BufferData : Type 0 where
  pub next : ℕ
  pub items : List Item
  pub gone : ℕ

-- the number is that of an entry that waits
abbrev pub waits : ℕ → Bool
waits doc = nat_lt doc 2147483648

-- the number with which an entry came, which waits or is gone
abbrev pub came_as : ℕ → ℕ
came_as doc = if waits doc then doc else doc - 2147483648

-- the number of the entry once it is gone
abbrev pub gone_as : ℕ → ℕ
gone_as doc = came_as doc + 2147483648

-- the entry, which is gone where it came with this number
abbrev pub out_of : ℕ → Item → Item
out_of number x = if nat_eq (came_as x.doc) number then record x { doc = gone_as x.doc } else x

-- the entries that wait, without those that are gone
abbrev pub waiting : List Item → List Item
waiting held = filter (λ x. waits x.doc) held

-- what a buffer keeps to: its entries ascend by the numbers with which they came, which are below the next, and those
-- that wait are counted
pub record IsHeld (next live : ℕ) (held : List Item) : Type 0 where
  pub ordered : IsNonDecreasingBy (λ x. came_as x.doc) held
  pub below : All (λ x. came_as x.doc < next) held
  pub counted : live ≡ length (waiting held)
