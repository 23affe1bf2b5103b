-- The sums of what drawn queries find, one query after the other. They are small, so they never stand still at the greatest number.
use Rattle.std.proofs.Common.{◌≡◌, ◌≤◌, ◌<◌, ◌+◌, ◌-◌, ◌*◌, ◌^◌, ℕ, min, List, [], ◌∷◌, length, take, get_or, refl, ap, subst, ◌∙◌, arith, ℤ}
use Rattle.std.proofs.Math.Nat.{mul-le-mul}
use Rattle.std.specs.List.{fold, sum_by}
use Rattle.std.proofs.lemmas.List.FromFn.{length-map-range_with_len, sum_by-map-range_with_len_more}
use Rattle.std.proofs.lemmas.List.Sums.{count_by-le-length, length-filter, sum_by_more, sum_by_more_le}
use Rattle.point_codec.specs.Points.{Region, in_box}
use Rattle.point_codec.specs.declared.entries.Near.{Near}
use Rattle.documents.specs.Documents.{Document, hits}
use Rattle.documents.specs.Nearest.{found_of, nearest}
use Rattle.drawn_points.specs.Draws.{point, points}
use Rattle.drawn_points.specs.Generated.{box_hits, box_round, document, documents, near_sum, stays}
use Rattle.generate_index.specs.Generates.{made_docs}

-- ---- distances

sum_from : (a : ℕ) (ns : List Near) → fold (λ s (f : ℕ × ℕ). s + f.0) a (found_of ns) ≡ fold (λ s (n : Near). s + n.dist2) a ns
sum_from a [] = refl
sum_from a (n ∷ ns) = sum_from (a + n.dist2) ns

-- the distances of what was found, without the numbers
pub distances_alone : (ns : List Near) → sum_by (λ (f : ℕ × ℕ). f.0) (found_of ns) ≡ sum_by (λ (n : Near). n.dist2) ns
distances_alone ns = sum_from 0 ns

-- one distance more is added, and the sum doesn't saturate
pub distance_more : (ns : List Near) (i total : ℕ) (d : Near) → i < length ns → total ≡ sum_by (λ (n : Near). n.dist2) (take i ns)
    → sum_by (λ (n : Near). n.dist2) ns < 2 ^ 128
    → min (total + (get_or ns i d).dist2) (2 ^ 128 - 1) ≡ sum_by (λ (n : Near). n.dist2) (take (i + 1) ns)
distance_more ns i total d inside sum small =
    omega (arith, sum, small, sum_by_more (λ (n : Near). n.dist2) ns i d inside, sum_by_more_le (λ (n : Near). n.dist2) ns i d inside)

-- ---- boxes

-- no more documents are kept than were drawn
pub kept_few : (seed n : ℕ) → length (made_docs seed n) ≤ n
kept_few seed n =
    omega (arith, length-filter (stays n) (documents seed n), count_by-le-length (stays n) (documents seed n), length-map-range_with_len (document seed) 0 n)

-- the hits of one box more
pub hits_more : (seed n i total count : ℕ) (bounds : Region) (lo hi : List ℤ) → bounds ≡ record { lo = lo; hi = hi } → lo ≡ (box_round (point seed (n + i))).lo
    → hi ≡ (box_round (point seed (n + i))).hi → n ≤ 2 ^ 24 → i < 64
    → ((docs : List Document) (centers : List (List ℤ)) → box_hits docs centers ≤ length centers * length docs)
    → total ≡ box_hits (made_docs seed n) (points seed n i)
    → count ≡ length (hits (in_box bounds) (made_docs seed n)) → min (total + count) (2 ^ 64 - 1) ≡ box_hits (made_docs seed n) (points seed n (i + 1))
hits_more seed n i total count bounds lo hi box low high few inside law sum is = small _ _ _ _ _ more at_most (kept_few seed n) few inside sum here
  where
    round : bounds ≡ box_round (point seed (n + i))
    round = box ∙ (λ j. record { lo = low j; hi = high j })

    here : count ≡ length (hits (in_box (box_round (point seed (n + i)))) (made_docs seed n))
    here = is ∙ ap (λ (r : Region). length (hits (in_box r) (made_docs seed n))) round

    more : box_hits (made_docs seed n) (points seed n (i + 1))
        ≡ box_hits (made_docs seed n) (points seed n i) + length (hits (in_box (box_round (point seed (n + i)))) (made_docs seed n))
    more = sum_by-map-range_with_len_more (λ (center : List ℤ). length (hits (in_box (box_round center)) (made_docs seed n))) (point seed) n i (n + i) refl

    at_most : box_hits (made_docs seed n) (points seed n (i + 1)) ≤ (i + 1) * length (made_docs seed n)
    at_most = subst (λ k. box_hits (made_docs seed n) (points seed n (i + 1)) ≤ k * length (made_docs seed n))
        (length-map-range_with_len (point seed) n (i + 1)) (law (made_docs seed n) (points seed n (i + 1)))

    small : (all before one docs most : ℕ) → all ≡ before + one → all ≤ (i + 1) * docs → docs ≤ most → most ≤ 2 ^ 24 → i < 64 → total ≡ before → count ≡ one
        → min (total + count) (2 ^ 64 - 1) ≡ all
    small all before one docs most e bound fewer large inside a b =
        let first : i + 1 ≤ 64 = omega (arith, inside) in
        let second : docs ≤ 2 ^ 24 = omega (arith, fewer, large) in
        let product : (i + 1) * docs ≤ 64 * 2 ^ 24 = mul-le-mul first second in
        omega (arith, e, bound, product, a, b)

-- ---- nearest

-- the distances of one query more
pub near_more : (seed n from i total sum : ℕ) (at : List ℤ) (found : List (ℕ × ℕ)) → at ≡ point seed (from + i) → i < 16
    → ((m : ℕ) → near_sum (made_docs seed n) (points seed from m) ≤ m * 800000000000)
    → total ≡ near_sum (made_docs seed n) (points seed from i) → found ≡ nearest 10 at (made_docs seed n)
    → (sum_by (λ (f : ℕ × ℕ). f.0) found < 2 ^ 128 → sum ≡ sum_by (λ (f : ℕ × ℕ). f.0) found)
    → min (total + sum) (2 ^ 128 - 1) ≡ near_sum (made_docs seed n) (points seed from (i + 1))
near_more seed n from i total sum at found drawn inside law is answers told = small _ _ _ more (law (i + 1)) inside is here told
  where
    here : sum_by (λ (f : ℕ × ℕ). f.0) found ≡ sum_by (λ (f : ℕ × ℕ). f.0) (nearest 10 (point seed (from + i)) (made_docs seed n))
    here = ap (sum_by (λ (f : ℕ × ℕ). f.0)) (answers ∙ ap (λ (p : List ℤ). nearest 10 p (made_docs seed n)) drawn)

    more : near_sum (made_docs seed n) (points seed from (i + 1))
        ≡ near_sum (made_docs seed n) (points seed from i) + sum_by (λ (f : ℕ × ℕ). f.0) (nearest 10 (point seed (from + i)) (made_docs seed n))
    more = sum_by-map-range_with_len_more (λ (target : List ℤ). sum_by (λ (f : ℕ × ℕ). f.0) (nearest 10 target (made_docs seed n))) (point seed) from i
        (from + i) refl

    small : (all before one : ℕ) → all ≡ before + one → all ≤ (i + 1) * 800000000000 → i < 16 → total ≡ before → sum_by (λ (f : ℕ × ℕ). f.0) found ≡ one
        → (sum_by (λ (f : ℕ × ℕ). f.0) found < 2 ^ 128 → sum ≡ sum_by (λ (f : ℕ × ℕ). f.0) found)
        → min (total + sum) (2 ^ 128 - 1) ≡ all
    small all before one e bound inside a b told = let exact = told (omega (arith, e, bound, inside, b)) in omega (arith, e, bound, inside, a, b, exact)
