-- Cells, the closed boxes of a tree's nodes, and the points in them.
use Rattle.std.specs.Prelude.{ℕ, ◌≡◌, Bool, true, ◌&&◌, List, [], ◌∷◌, All, ℤ, slice_set}
use Rattle.std.specs.Int.{int_max, int_min}
use Rattle.point_codec.specs.Points.{Region, all_le, in_box}

-- the first cell lies within the second
abbrev pub within : Region → Region → Bool
within inner outer = all_le outer.lo inner.lo && all_le inner.hi outer.hi

-- the least cell round the points: it has each of them, and lies within each cell that has them all
pub record IsLeastCell (points : List (List ℤ)) (r : Region) : Type 0 where
  pub holds : All (λ p. in_box r p ≡ true) points
  pub least : (s : Region) → All (λ p. in_box s p ≡ true) points → within r s ≡ true

-- a cell cut at a value in a dimension: both halves keep the value
abbrev pub left_of : Region → ℕ → ℤ → Region
left_of r dim at = record { lo = r.lo; hi = slice_set r.hi dim at }

abbrev pub right_of : Region → ℕ → ℤ → Region
right_of r dim at = record { lo = slice_set r.lo dim at; hi = r.hi }

-- the coordinates of p, each moved between the ends
abbrev pub moved_between : List ℤ → List ℤ → List ℤ → List ℤ
moved_between (l ∷ ls) (h ∷ hs) (x ∷ xs) = int_max l (int_min x h) ∷ moved_between ls hs xs
moved_between [] hs xs = []
moved_between (l ∷ ls) [] xs = []
moved_between (l ∷ ls) (h ∷ hs) [] = []

-- the point of the cell that is nearest to p
abbrev pub nearest_in : Region → List ℤ → List ℤ
nearest_in r p = moved_between r.lo r.hi p

-- the answers of f in each dimension
abbrev pub by_dimension : (ℤ → ℤ → ℤ) → List ℤ → List ℤ → List ℤ
by_dimension f (x ∷ xs) (y ∷ ys) = f x y ∷ by_dimension f xs ys
by_dimension f [] ys = []
by_dimension f (x ∷ xs) [] = []
