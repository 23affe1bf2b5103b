-- Documents, and those that a test finds, over one list.
use Rattle.std.specs.Prelude.{ℕ, ◌<◌, Bool, not, nat_eq, List, map, filter, AllPairs, ℤ}
use Rattle.std.specs.List.{list_any}

-- a document: its number and its points, 1 to 16 different ones in ascending order (Lucene's document number and point
-- values)
pub record Document : Type 0 where
  pub number : ℕ
  pub points : List (List ℤ)

-- the list ascends by number
abbrev pub Ascend : List Document → Type 0
Ascend docs = AllPairs (λ a b. a.number < b.number) docs

-- a document passes a test where one of its points does
abbrev pub passes : (List ℤ → Bool) → Document → Bool
passes test d = list_any test d.points

-- the numbers of the documents that pass, in the list's order
abbrev pub hits : (List ℤ → Bool) → List Document → List ℕ
hits test docs = map (λ d. d.number) (filter (passes test) docs)

-- the documents that don't pass
abbrev pub docs_failing : (List ℤ → Bool) → List Document → List Document
docs_failing test docs = filter (λ d. not (passes test d)) docs

-- a document of this number is in the list
abbrev pub is_live : ℕ → List Document → Bool
is_live number docs = list_any (λ d. nat_eq d.number number) docs

-- the documents of other numbers
abbrev pub docs_without : ℕ → List Document → List Document
docs_without number docs = filter (λ d. not (nat_eq d.number number)) docs
