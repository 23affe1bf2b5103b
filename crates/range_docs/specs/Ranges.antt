-- Ranges, as sets of points, and what is asked of them.
use Rattle.std.specs.Prelude.{ℕ, ◌≡◌, ◌*◌, ◌↔◌, Bool, true, List, ◌++◌, length, take, drop, replicate, All, ℤ, pos}
use Rattle.std.specs.Prelude.{negsuc, FitsSigned}
use mir.Syntax.{w32}
use Rattle.point_codec.specs.Points.{Region, all_le, in_box}
use Rattle.point_codec.specs.declared.coordinates.Point.{Point}
use Rattle.range_docs.specs.declared.ranges.Question.{Question}
use Rattle.range_docs.specs.declared.ranges.Question.TheVariants.{Intersects, Within, Contains}

-- the range of r dimensions that a list of ends tells: the lower end in each dimension, and then the upper ends
abbrev pub range_of : ℕ → List ℤ → Region
range_of r ends = record { lo = take r ends; hi = drop r ends }

-- a range has the whole points between its ends, both counted
abbrev pub Has : Region → List ℤ → Type 0
Has range p = in_box range p ≡ true

-- no lower end is greater than the upper end of its dimension
abbrev pub is_range : Region → Bool
is_range range = all_le range.lo range.hi

-- a stored range is an answer on the range of a query: some point is in both, each point of the stored one is in the
-- query's, or each point of the query's is in the stored one
abbrev pub AnswersOn : Question → (stored query : Region) → Type 0
AnswersOn Intersects stored query = (p : List ℤ) × Has stored p × Has query p
AnswersOn Within stored query = (p : List ℤ) → Has stored p → Has query p
AnswersOn Contains stored query = (p : List ℤ) → Has query p → Has stored p

-- the ends of a range of r dimensions, whole numbers of 32 bits
pub record AreEnds (r : ℕ) (ends : List ℤ) : Type 0 where
  pub long : length ends ≡ 2 * r
  pub fits : All (λ x. FitsSigned w32 x) ends
  pub ordered : is_range (range_of r ends) ≡ true

-- a range of r dimensions that is asked about
pub record IsQuery (r : ℕ) (query : Region) : Type 0 where
  pub lo : length query.lo ≡ r
  pub hi : length query.hi ≡ r
  pub ordered : is_range query ≡ true

-- a test of ranges says yes just where the stored one is an answer on the query
abbrev pub Decides : (Question → (stored query : Region) → Bool) → Type 0
Decides test =
    (question : Question) (r : ℕ) (ends : List ℤ) (query : Region) → AreEnds r ends → IsQuery r query
    → (test question (range_of r ends) query ≡ true) ↔ AnswersOn question (range_of r ends) query

-- where the query is a range, the box has, of the points that are ranges of r dimensions, just the answers on it
abbrev pub HasAnswers : Question → ℕ → (query bounds : Region) → Type 0
HasAnswers question r query bounds =
    is_range query ≡ true → (ends : List ℤ) → AreEnds r ends
    → (in_box bounds ends ≡ true) ↔ AnswersOn question (range_of r ends) query

-- the least and the greatest whole number of 32 bits
abbrev pub least : ℤ
least = negsuc 2147483647

abbrev pub greatest : ℤ
greatest = pos 2147483647

-- the box of the answers on a query
abbrev pub box_for : Question → Region → Region
box_for Intersects query = record {
  lo = replicate (length query.lo) least ++ query.lo;
  hi = query.hi ++ replicate (length query.hi) greatest;
}
box_for Within query = record { lo = query.lo ++ query.lo; hi = query.hi ++ query.hi }
box_for Contains query = record {
  lo = replicate (length query.lo) least ++ query.hi;
  hi = query.lo ++ replicate (length query.hi) greatest;
}

-- a stored range is in the box of the answers on a query
abbrev pub is_boxed : Question → (stored query : Region) → Bool
is_boxed question stored query = in_box (box_for question query) (stored.lo ++ stored.hi)

-- the range of a query: its ends are the first r coordinates of two points
abbrev pub query_of : {D : ℕ} → ℕ → (lo hi : Point D) → Region
query_of r lo hi = record { lo = take r lo.c; hi = take r hi.c }

-- the box from a point to another
abbrev pub bounds_of : {D : ℕ} → Point D × Point D → Region
bounds_of corners = record { lo = corners.0.c; hi = corners.1.c }
