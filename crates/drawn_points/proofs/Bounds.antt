-- How far apart drawn points are, and how large the sums are.
use Rattle.std.proofs.Common.{◌+◌, ◌*◌, ◌%◌, ◌<◌, ◌≤◌, ℕ, List, length, filter}
use Rattle.std.proofs.Common.{arith, subst, Bool, length-take, ℤ, ◌-ℤ◌, unsigned_abs}
use Rattle.std.proofs.Math.Nat.{mul-le-mul}
use Rattle.std.specs.List.{All, range_with_len, slice_index_or, sum_by}
use Rattle.std.proofs.lemmas.Int.{ints}
use Rattle.std.proofs.lemmas.List.Elements.{All-contains, All-filter, All-map, All-take, Contains-get_or}
use Rattle.std.proofs.lemmas.List.Sums.{count_by-le-length, length-filter, sum_by-le}
use Rattle.std.proofs.lemmas.List.{length-map}
use Rattle.std.proofs.lemmas.List.FromFn.{length-map-range_with_len}
use Rattle.point_codec.specs.Points.{in_box, square}
use Rattle.point_codec.specs.Order.{in_order}
use Rattle.documents.specs.Documents.{Document, hits, passes}
use Rattle.documents.specs.Nearest.{distance, distances, nearer, nearest}
use Rattle.documents.proofs.InOrder.{in_order_of}
use Rattle.documents.proofs.Ranking.{nearer_exact, nearer_total}
use Rattle.drawn_points.specs.Draws.{coordinate, draw, point, points}
use Rattle.drawn_points.specs.Generated.{box_hits, box_round, document, documents, kept_docs, near_sum, stays}

-- ---- distances

apart : (a b : ℕ) → unsigned_abs (coordinate a -ℤ coordinate b) ≤ 200000
apart a b =
    let x : a % 200001 < 200001 = omega arith in
    let y : b % 200001 < 200001 = omega arith in
    grind (arith, ints)

square_apart : (a b : ℕ) → square (coordinate a -ℤ coordinate b) ≤ 40000000000
square_apart a b = mul-le-mul (apart a b) (apart a b)

distance_small : (seed i j : ℕ) → distance (point seed j) (document seed i).points ≤ 80000000000
distance_small seed i j =
    omega (arith, square_apart (draw seed (2 * i + 1)) (draw seed (2 * j + 1)), square_apart (draw seed (2 * i + 2)) (draw seed (2 * j + 2)))

distances_small : (seed n bound j : ℕ) → All (λ found. found.0 ≤ 80000000000) (distances (point seed j) (kept_docs bound (documents seed n)))
distances_small seed n bound j =
    All-map (λ (found : ℕ × ℕ). found.0 ≤ 80000000000) (λ (d : Document). (distance (point seed j) d.points, d.number)) (kept_docs bound (documents seed n))
    (All-filter (stays bound) (λ (d : Document). distance (point seed j) d.points ≤ 80000000000) (documents seed n)
    (All-map (λ (d : Document). distance (point seed j) d.points ≤ 80000000000) (document seed) (range_with_len 0 n)
    (λ k i lt. distance_small seed (slice_index_or (range_with_len 0 n) k i) j)))

pub answers_small : (seed n bound j : ℕ) → All (λ found. found.0 ≤ 80000000000) (nearest 10 (point seed j) (kept_docs bound (documents seed n)))
answers_small seed n bound j =
    let all = distances (point seed j) (kept_docs bound (documents seed n)) in
    All-take (λ (found : ℕ × ℕ). found.0 ≤ 80000000000) 10 (in_order nearer all)
    (λ k d lt. All-contains (λ (found : ℕ × ℕ). found.0 ≤ 80000000000) all (slice_index_or (in_order nearer all) k d) (distances_small seed n bound j)
    (in_order_of nearer nearer_total nearer_exact all (slice_index_or (in_order nearer all) k d) (Contains-get_or (in_order nearer all) k d lt)))

-- ---- sums

answer_small : (seed n bound j : ℕ) → sum_by (λ found. found.0) (nearest 10 (point seed j) (kept_docs bound (documents seed n))) ≤ 800000000000
answer_small seed n bound j =
    let answers = nearest 10 (point seed j) (kept_docs bound (documents seed n)) in
    let few : length answers ≤ 10 = omega (arith, length-take 10 (in_order nearer (distances (point seed j) (kept_docs bound (documents seed n))))) in
    let sum = sum_by-le (λ (found : ℕ × ℕ). found.0) 80000000000 answers (answers_small seed n bound j) in
    omega (arith, sum, few)

pub near_small : (seed n bound i m : ℕ) → near_sum (kept_docs bound (documents seed n)) (points seed i m) ≤ m * 800000000000
near_small seed n bound i m =
    let docs = kept_docs bound (documents seed n) in
    let sum = sum_by-le (λ (target : List ℤ). sum_by (λ found. found.0) (nearest 10 target docs)) 800000000000 (points seed i m)
    (All-map (λ (target : List ℤ). sum_by (λ found. found.0) (nearest 10 target docs) ≤ 800000000000) (point seed) (range_with_len i m)
    (λ k d lt. answer_small seed n bound (slice_index_or (range_with_len i m) k d))) in
    subst (λ (k : ℕ). near_sum docs (points seed i m) ≤ k * 800000000000) (length-map-range_with_len (point seed) i m) sum

hits_few : (test : List ℤ → Bool) (docs : List Document) → length (hits test docs) ≤ length docs
hits_few test docs =
    omega (arith, length-map (filter (passes test) docs) (λ (d : Document). d.number), length-filter (passes test) docs, count_by-le-length (passes test) docs)

pub boxes_small : (docs : List Document) (centers : List (List ℤ)) → box_hits docs centers ≤ length centers * length docs
boxes_small docs centers =
    sum_by-le (λ (center : List ℤ). length (hits (in_box (box_round center)) docs)) (length docs) centers
    (λ k d lt. hits_few (in_box (box_round (slice_index_or centers k d))) docs)
