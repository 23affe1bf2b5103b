-- The numbers nearest to a point, where each entry is known by its number and its squared distance.
use Rattle.std.specs.Prelude.{ℕ, ◌≡◌, ◌≤◌, ◌<◌, ◌⊎◌, List, map, length, All, AllPairs, Contains, ℤ}
use Rattle.point_codec.specs.Points.{Item, dist2}
use Rattle.point_codec.specs.declared.entries.Near.{Near}

-- nearer, or as near with a smaller number
pub record ComesBefore (a b : Near) : Type 0 where
  pub near : a.dist2 ≤ b.dist2
  pub tie : b.dist2 ≤ a.dist2 → a.doc < b.doc

-- the number is among those found
abbrev pub HasNumber : List Near → ℕ → Type 0
HasNumber found number = (a : Near) × Contains found a × (a.doc ≡ number)

-- The found are the k numbers nearest among the entries, a number being as near as the nearest of its entries:
-- ascending by distance and then number; each with the least distance of its entries; k of them, or all numbers where
-- there are fewer; and each number that is left out comes after all of them. This determines the found
-- (`docs_nearest`).
pub record IsNearest (k : ℕ) (entries found : List Near) : Type 0 where
  pub rises : AllPairs ComesBefore found
  pub among : (a : Near) → Contains found a → Contains entries a
  pub least : (a x : Near) → Contains found a → Contains entries x → x.doc ≡ a.doc → a.dist2 ≤ x.dist2
  pub few : length found ≤ k
  pub left_out : (x : Near) → Contains entries x → HasNumber found x.doc
      ⊎ ((length found ≡ k) × All (λ a. ComesBefore a x) found)

-- an entry's number and its squared distance from a point
abbrev pub near_of : List ℤ → Item → Near
near_of at x = record { dist2 = dist2 x.at at; doc = x.doc }

abbrev pub nears_of : List ℤ → List Item → List Near
nears_of at items = map (near_of at) items
