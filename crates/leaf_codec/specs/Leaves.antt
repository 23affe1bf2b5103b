-- What a leaf is, and which bytes spell it.
use Rattle.std.specs.Prelude.{ℕ, ◌+◌, ◌*◌, ◌/◌, ◌^◌, ◌<◌, ◌≤◌, ◌≡◌, true, List, length, All, ℤ, FitsSigned}
use Rattle.std.specs.Int.{w32}
use Rattle.std.specs.List.Sorted.{IsStrictlySortedBy}
use Rattle.point_codec.specs.Points.{Item, Region, in_box}
use Rattle.leaf_codec.specs.LeafOrder.{leaf_order}
use Rattle.leaf_codec.specs.Spelling.{spelling}

-- the greatest number of entries of a leaf of D dimensions, so that its bytes fit into a page
abbrev pub leaf_limit : ℕ → ℕ
leaf_limit D = 4000 / (4 + 4 * D)

-- D coordinates of 32 bits
pub record IsPoint (D : ℕ) (p : List ℤ) : Type 0 where
  pub dims : length p ≡ D
  pub fits : All (λ x. FitsSigned w32 x) p

-- the entries of a leaf, in leaf order and none twice
pub record AreLeaf (D : ℕ) (items : List Item) : Type 0 where
  pub some : 1 ≤ length items
  pub few : length items ≤ leaf_limit D
  pub numbers : All (λ x. x.doc < 2 ^ 24) items
  pub points : All (λ x. IsPoint D x.at) items
  pub ascending : IsStrictlySortedBy (leaf_order D items) items

-- The bytes are the spelling of the items of a leaf. As the spelling is a function, a leaf has one; that bytes
-- spell no two leaves is a law (`one_leaf`).
pub record SpellsLeaf (D : ℕ) (bytes : List ℕ) (items : List Item) : Type 0 where
  pub are_leaf : AreLeaf D items
  pub is : bytes ≡ spelling D items

-- the bytes spell these items, as many as said and all inside the cell
pub record SpellsLeafIn (D : ℕ) (bytes : List ℕ) (count : ℕ) (cell : Region) (items : List Item) : Type 0 where
  pub spells : SpellsLeaf D bytes items
  pub counted : length items ≡ count
  pub inside : All (λ x. in_box cell x.at ≡ true) items

-- they spell some leaf of that count inside the cell
abbrev pub SpellsSomeIn : ℕ → List ℕ → ℕ → Region → Type 0
SpellsSomeIn D bytes count cell = ∥ ((items : List Item) × SpellsLeafIn D bytes count cell items) ∥₁
