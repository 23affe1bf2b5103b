-- The list of the files that a set of segments took over or began to write and hasn't removed, and which names are
-- free for further files (this project's own rules).
use Rattle.std.specs.Prelude.{◌≡◌, ◌<◌, ◌≤◌, ℕ, ◌+◌, ◌-◌, ◌^◌, Bool, true, false, List}
use Rattle.std.specs.List.{list_any}
use Rattle.outer_io.specs.declared.file_name.FileName.{FileName}
use Rattle.outer_io.specs.declared.file_name.FileName.TheVariants.{Commit, CommitNew, Segment, Live}
use Rattle.outer_io.specs.Names.{same_name}

-- the names in the order in which they joined, and the id of the next segment
pub record NameList : Type 0 where
  pub names : List FileName
  pub next_segment : ℕ

-- the list has this name
unfoldable pub is_named : List FileName → FileName → Bool
is_named names name = list_any (λ n. same_name n name) names

-- each segment that is named is below the next one, whose name is free therefore
pub record AreBelow (n : NameList) : Type 0 where
  pub below : (id : ℕ) → is_named n.names (Segment id) ≡ true → id < n.next_segment

-- the same of one name
abbrev pub IsBelow : ℕ → FileName → Type 0
IsBelow next Commit = Unit {0}
IsBelow next CommitNew = Unit {0}
IsBelow next (Segment id) = id < next
IsBelow next (Live segment generation) = Unit {0}

-- the least number that isn't taken
pub record IsLeastFree (taken : ℕ → Bool) (number : ℕ) : Type 0 where
  pub free : taken number ≡ false
  pub least : (n : ℕ) → n < number → taken n ≡ true

-- the greatest number that is taken
pub record IsGreatestTaken (taken : ℕ → Bool) (number : ℕ) : Type 0 where
  pub is_taken : taken number ≡ true
  pub most : (n : ℕ) → taken n ≡ true → n ≤ number

-- The id of a new segment, and the next one afterwards. Ids are given in turn. At the end of the type, where no id
-- would be left above the new one, it is the least that isn't named, and the next one stays.
pub record IsNextId (old : NameList) (id next : ℕ) : Type 0 where
  pub in_turn : old.next_segment < 2 ^ 64 - 1 → (id ≡ old.next_segment) × (next ≡ old.next_segment + 1)
  pub at_end : old.next_segment ≡ 2 ^ 64 - 1
      → IsLeastFree (λ n. is_named old.names (Segment n)) id × (id < 2 ^ 64 - 1) × (next ≡ old.next_segment)

-- The generation of a segment's next live bits, where some are taken: 1 is the first, a later one is one more than the
-- greatest, and where that is past the end of the type it is the least that isn't taken.
pub record IsNextGeneration (taken : ℕ → Bool) (generation : ℕ) : Type 0 where
  pub first : ((n : ℕ) → taken n ≡ false) → generation ≡ 1
  pub later : (greatest : ℕ) → IsGreatestTaken taken greatest → greatest + 1 < 2 ^ 64 → generation ≡ greatest + 1
  pub at_end : (greatest : ℕ) → IsGreatestTaken taken greatest → 2 ^ 64 ≤ greatest + 1 → IsLeastFree taken generation
