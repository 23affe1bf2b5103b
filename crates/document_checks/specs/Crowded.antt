-- Numbers with too many entries, or with one of them twice.
use Rattle.std.specs.Prelude.{ℕ, ◌≡◌, ◌≤◌, ◌<◌, ◌-◌, ◌⊎◌, ◌&&◌, ◌||◌, Bool, true, false, List, length, nat_eq, nat_le}
use Rattle.std.specs.Prelude.{slice_index_or}
use Rattle.std.specs.List.{count_by}
use Rattle.std.specs.declared.cmp.Ordering.{Ordering}
use Rattle.std.specs.Ordering.{int_cmp, nat_cmp, is_eq, ordering_then}
use Rattle.std.specs.Cmp.Lexicographic.{slice_cmp}
use Rattle.point_codec.specs.Points.{Item}
use Rattle.point_codec.specs.declared.entries.Entry.{Entry}
use Rattle.leaf_codec.specs.LeafOrder.{item_of, same_item}

-- how many of the entries have the number
abbrev pub count_of : ℕ → List Item → ℕ
count_of number items = count_by (λ x. nat_eq x.doc number) items

-- at most 16 entries of each number, as many as a document has points
abbrev pub AreFew : List Item → Type 0
AreFew items = (number : ℕ) → count_of number items ≤ 16

-- more than 16 entries have the number, or one of them stands twice
abbrev pub IsCrowded : ℕ → List Item → Type 0
IsCrowded number items = (17 ≤ count_of number items)
    ⊎ ((x : Item) × (x.doc ≡ number) × (2 ≤ count_by (same_item x) items))

-- no number has so many, and none of the entries stands twice, as is so of those of documents
abbrev pub AreUncrowded : List Item → Type 0
AreUncrowded items = (number : ℕ) → IsCrowded number items → ⊥

-- the number is crowded, and no lesser one is
pub record IsLeastCrowded (number : ℕ) (items : List Item) : Type 0 where
  pub crowded : IsCrowded number items
  pub least : (n : ℕ) → n < number → IsCrowded n items → ⊥

-- the order by number, and then by coordinates
abbrev pub by_number : Item → Item → Ordering
by_number x y = ordering_then (nat_cmp x.doc y.doc) (slice_cmp int_cmp x.at y.at)

-- entry k of the list is the one before it, or has the number of the sixteenth before it
abbrev pub repeats_at : {D : ℕ} → Entry D → List (Entry D) → ℕ → Bool
repeats_at d xs k =
    is_eq (by_number (item_of (slice_index_or xs (k - 1) d)) (item_of (slice_index_or xs k d)))
    || (nat_le 16 k && nat_eq (slice_index_or xs (k - 16) d).doc (slice_index_or xs k d).doc)

-- the first entry that repeats one before it has the number
pub record IsFirstRepeat {D : ℕ} (xs : List (Entry D)) (number : ℕ) : Type 0 where
  pub place : ℕ
  pub some : 1 ≤ place
  pub within : place < length xs
  pub repeats : (d : Entry D) → (repeats_at d xs place ≡ true) × ((slice_index_or xs place d).doc ≡ number)
  pub before : (k : ℕ) (d : Entry D) → 1 ≤ k → k < place → repeats_at d xs k ≡ false
