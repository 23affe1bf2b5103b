-- What a visit finds: the numbers of the entries that pass, each once and ascending.
use Rattle.std.specs.Prelude.{ℕ, ◌↔◌, Bool, List, Contains, ℤ}
use Rattle.std.specs.List.Sorted.{IsStrictlyIncreasing}
use Rattle.point_codec.specs.Points.{Item}
use Rattle.documents.specs.Entries.{numbers_found}

-- the numbers of the entries whose points pass, each once and ascending: where the entries are those of documents,
-- these are the documents that pass (`docs_hits` of the crate `documents`)
pub record AreFound (test : List ℤ → Bool) (entries : List Item) (found : List ℕ) : Type 0 where
  pub rises : IsStrictlyIncreasing found
  pub each : (number : ℕ) → Contains found number ↔ Contains (numbers_found test entries) number
