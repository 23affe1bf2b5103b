-- The least cell round points: of one point, with one more, and that there is only one.
use Rattle.std.proofs.Common.{◌≡◌, ℕ, ◌+◌, ◌<◌, true, List, [], ◌∷◌, ◌++◌, length, map, take, get_or, Some, ℤ, refl, ap, ◌∙◌}
use Rattle.std.proofs.lemmas.List.{take_more, map-append}
use Rattle.std.proofs.lemmas.List.Elements.{All-push, All-nil, All-head, All-pop, All-weaker}
use Rattle.std.specs.List.{All}
use Rattle.std.specs.Int.{int_max, int_min}
use Rattle.point_codec.specs.Points.{Region, all_le, in_box}
use Rattle.point_codec.specs.Cells.{IsLeastCell, within, by_dimension}
use Rattle.point_codec.proofs.Corners.{both_true, in_box-corners, all_le-refl, all_le-trans, all_le-antisym}
use Rattle.point_codec.proofs.Corners.{all_le_least, all_le_greatest, all_le_of_least, all_le_of_greatest}

-- the cell with its corners moved apart as far as the point
abbrev pub widened : Region → List ℤ → Region
widened r p = record { lo = by_dimension int_min r.lo p; hi = by_dimension int_max r.hi p }

-- two least cells of the same points are one
pub least_cell_unique : (points : List (List ℤ)) (r s : Region) → IsLeastCell points r → IsLeastCell points s → r ≡ s
least_cell_unique points r s one other =
    let first = both_true (all_le s.lo r.lo) (all_le r.hi s.hi) (one.least s other.holds) in
    let next = both_true (all_le r.lo s.lo) (all_le s.hi r.hi) (other.least r one.holds) in
    let lows = all_le-antisym r.lo s.lo next.0 first.0 in
    let highs = all_le-antisym r.hi s.hi first.1 next.1 in
    λ i. record { lo = lows i; hi = highs i }

-- the cell of a single point
pub IsLeastCell-one : (p : List ℤ) → IsLeastCell (p ∷ []) (record { lo = p; hi = p })
IsLeastCell-one p = record {
  holds = All-push (λ q. in_box (record { lo = p; hi = p }) q ≡ true) [] p (All-nil _) (rw (all_le-refl p) refl);
  least = λ s all. All-head (λ q. in_box s q ≡ true) p [] all;
}

wider : (r : Region) (p q : List ℤ) → length r.lo ≡ length p → length r.hi ≡ length p → in_box r q ≡ true → in_box (widened r p) q ≡ true
wider r p q low high h =
    let at = both_true (all_le r.lo q) (all_le q r.hi) h in
    rw (all_le-trans _ r.lo q (all_le_least r.lo p low).0 at.0, all_le-trans q r.hi _ at.1 (all_le_greatest r.hi p high).0) refl

reaches : (r : Region) (p : List ℤ) → length r.lo ≡ length p → length r.hi ≡ length p → in_box (widened r p) p ≡ true
reaches r p low high = rw ((all_le_least r.lo p low).1, (all_le_greatest r.hi p high).1) refl

no_wider : (r s : Region) (p : List ℤ) → within r s ≡ true → in_box s p ≡ true → within (widened r p) s ≡ true
no_wider r s p h k =
    let corners = both_true (all_le s.lo r.lo) (all_le r.hi s.hi) h in
    let at = both_true (all_le s.lo p) (all_le p s.hi) k in
    rw (all_le_of_least s.lo r.lo p corners.0 at.0, all_le_of_greatest s.hi r.hi p corners.1 at.1) refl

front : (P : List ℤ → Type 0) (points : List (List ℤ)) (p : List ℤ) → All P (points ++ p ∷ []) → All P points × P p
front P points p all =
    let parts = All-pop P (points ++ p ∷ []) points (Some p) refl all in
    (parts.0, parts.1)

-- and with one more point
pub IsLeastCell-more : (points : List (List ℤ)) (r : Region) (p : List ℤ) → length r.lo ≡ length p → length r.hi ≡ length p → IsLeastCell points r
    → IsLeastCell (points ++ p ∷ []) (widened r p)
IsLeastCell-more points r p low high told = record {
  holds = All-push (λ q. in_box (widened r p) q ≡ true) points p
      (All-weaker (λ q. in_box r q ≡ true) (λ q. in_box (widened r p) q ≡ true) (λ q h. wider r p q low high h) points told.holds) (reaches r p low high);
  least = λ s all. let parts = front (λ q. in_box s q ≡ true) points p all in no_wider r s p (told.least s parts.0) parts.1;
}

-- the corners of the least cell round a point and others are in order
pub least_cell_ordered : (p : List ℤ) (points : List (List ℤ)) (r : Region) → IsLeastCell (p ∷ points) r → all_le r.lo r.hi ≡ true
least_cell_ordered p points r told = in_box-corners r p (All-head (λ q. in_box r q ≡ true) p points told.holds)

-- the points of the entries passed, and of one more
pub map-more : {X Y : Type 0} (f : X → Y) (xs : List X) (i : ℕ) (d : X) → i < length xs → map f (take (i + 1) xs) ≡ map f (take i xs) ++ f (get_or xs i d) ∷ []
map-more f xs i d h = ap (map f) (take_more xs i d h) ∙ map-append f (take i xs) (get_or xs i d ∷ [])

pub map-map : {X Y Z : Type 0} (f : Y → Z) (h : X → Y) (xs : List X) → map f (map h xs) ≡ map (λ x. f (h x)) xs
map-map f h [] = refl
map-map f h (x ∷ xs) = ap (λ ys. f (h x) ∷ ys) (map-map f h xs)
