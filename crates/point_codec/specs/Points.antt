-- Points, boxes and distances on plain lists of whole numbers: a point is the list of its coordinates.
use Rattle.std.specs.Prelude.{ℕ, ◌+◌, ◌*◌, ◌≤◌, length, Bool, true, false, ◌&&◌, List, [], ◌∷◌, ℤ, ◌-ℤ◌, int_le}
use Rattle.std.specs.Prelude.{unsigned_abs}
use Rattle.std.specs.List.Sorted.{IsStrictlySortedBy}
use Rattle.point_codec.specs.Order.{in_order}
use Rattle.std.specs.Ordering.{int_cmp}
use Rattle.std.specs.Cmp.Lexicographic.{slice_cmp}

-- no coordinate of the first is greater than that of the second in the same dimension
abbrev pub all_le : List ℤ → List ℤ → Bool
all_le (x ∷ xs) (y ∷ ys) = int_le x y && all_le xs ys
all_le [] [] = true
all_le [] (y ∷ ys) = false
all_le (x ∷ xs) [] = false

-- the cell from lo to hi
pub record Region : Type 0 where
  pub lo : List ℤ
  pub hi : List ℤ

-- an entry of the index: a document's number, and one of its points
pub record Item : Type 0 where
  pub doc : ℕ
  pub at : List ℤ

-- lo[i] ≤ p[i] ≤ hi[i] in each dimension i (the closed box of Lucene's points); where some lo[i] is above hi[i] no
-- point is
abbrev pub in_box : Region → List ℤ → Bool
in_box r p = all_le r.lo p && all_le p r.hi

abbrev pub square : ℤ → ℕ
square x = unsigned_abs x * unsigned_abs x

-- the sum of the squared differences of the coordinates
abbrev pub dist2 : List ℤ → List ℤ → ℕ
dist2 (x ∷ xs) (y ∷ ys) = square (x -ℤ y) + dist2 xs ys
dist2 [] ys = 0
dist2 (x ∷ xs) [] = 0

-- the different ones among the points, ascending by their coordinates in order
abbrev pub ordered_points : List (List ℤ) → List (List ℤ)
ordered_points points = in_order (slice_cmp int_cmp) points

-- the points of a document: 1 to 16 different ones, ascending (Lucene's several values of one field; this project's
-- limit)
pub record ArePoints (points : List (List ℤ)) : Type 0 where
  pub some : 1 ≤ length points
  pub few : length points ≤ 16
  pub ascending : IsStrictlySortedBy (slice_cmp int_cmp) points
