-- Documents as entries: an index keeps of a document its number with each of its points, in whatever order.
use Rattle.std.specs.Prelude.{ℕ, ◌≡◌, ◌≢◌, ◌<◌, ◌≤◌, Bool, not, nat_eq, List, map, filter, All, AllPairs, ℤ}
use Rattle.std.specs.List.{list_any, flat_map, sum_by, count_by}
use Rattle.std.specs.List.Sorted.{IsPermutation}
use Rattle.point_codec.specs.Points.{Item, ArePoints}
use Rattle.documents.specs.Documents.{Document, Ascend}

-- a number with a point
abbrev pub entry_of : ℕ → List ℤ → Item
entry_of number at = record { doc = number; at = at }

-- the document's number with each of its points
abbrev pub entries_of : Document → List Item
entries_of d = map (entry_of d.number) d.points

-- the entries of all documents, in their order
abbrev pub entries_in : List Document → List Item
entries_in docs = flat_map entries_of docs

-- The entries are just those of the documents, in any order. The documents ascend by numbers below next, and each has
-- its points. Entries are those of one list of documents only (`one_list`).
pub record AreDocs (next : ℕ) (entries : List Item) (docs : List Document) : Type 0 where
  pub ascend : Ascend docs
  pub below : All (λ d. d.number < next) docs
  pub points : All (λ d. ArePoints d.points) docs
  pub same : IsPermutation entries (entries_in docs)

-- What makes entries those of documents (`docs_exist`): numbers below next, of each number at most 16 entries, and no
-- entry twice.
pub record MakeDocs (next : ℕ) (entries : List Item) : Type 0 where
  pub below : All (λ x. x.doc < next) entries
  pub few : (number : ℕ) → count_by (λ x. nat_eq x.doc number) entries ≤ 16
  pub once : AllPairs (λ x y. x ≢ y) entries

-- Any sum over the one list is that over the other: what a permutation comes to, in the form that proofs reckon with
-- (`permutations_by_totals`).
abbrev pub SameTotals : List Item → List Item → Type 0
SameTotals xs ys = (f : Item → ℕ) → sum_by f ys ≡ sum_by f xs

-- an entry has this number
abbrev pub has_entry : ℕ → List Item → Bool
has_entry number entries = list_any (λ x. nat_eq x.doc number) entries

-- the entries of other numbers
abbrev pub entries_but : ℕ → List Item → List Item
entries_but number entries = filter (λ x. not (nat_eq x.doc number)) entries

-- the number is one of these
abbrev pub is_among : List ℕ → ℕ → Bool
is_among numbers number = list_any (λ n. nat_eq n number) numbers

-- the numbers of the entries whose points pass a test: a document's as often as it has such points
abbrev pub numbers_found : (List ℤ → Bool) → List Item → List ℕ
numbers_found test entries = map (λ x. x.doc) (filter (λ x. test x.at) entries)
