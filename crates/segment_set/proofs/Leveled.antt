-- How many segments of a level are free, and how many segments there are at all.
use Rattle.std.proofs.Common.{◌≡◌, ℕ, ◌+◌, ◌≤◌, ◌<◌, Bool, true, false, not, ◌&&◌, ◌||◌, eqb, List, [], ◌∷◌, length, map, refl, sym, ap, ◌∙◌, inl, inr, arith}
use Rattle.std.specs.List.{AllPairs, Contains, count_by, sum_by, zip}
use Rattle.std.specs.List.Sorted.{IsStrictlyIncreasing}
use Rattle.std.proofs.lemmas.Bool.{cases_Bool, eqb-true}
use Rattle.std.proofs.lemmas.List.Kept.{AllPairs-from_increasing}
use Rattle.std.proofs.lemmas.List.Sums.{sum_by-cons}
use Rattle.documents.specs.Entries.{is_among}
use Rattle.documents.proofs.Lists.{cons_head, cons_tail, pairs_head, pairs_tail}
use Rattle.merge_policy.specs.Choice.{free_count, is_of_level}
use Rattle.segment_view.specs.LiveSegments.{LiveSegment, ids_of, parts_but, IsPlaced}
use Rattle.segment_set.specs.Sets.{sizes_of}
use Rattle.segment_set.proofs.Replaced.{one_if, total_placed}
use Rattle.segment_set.proofs.Steps.{but_none}

-- which segments are among the inputs
abbrev pub pinned : List ℕ → List LiveSegment → List Bool
pinned inputs parts = map (λ p. is_among inputs p.head.id) parts

-- 1 where the segment is of the level and no input
abbrev pub free_in : ℕ → List ℕ → LiveSegment → ℕ
free_in level inputs p = one_if (is_of_level level p.head.entries && not (is_among inputs p.head.id))

pub free_parts : (level : ℕ) (inputs : List ℕ) (parts : List LiveSegment)
    → free_count level (sizes_of parts) (pinned inputs parts) ≡ sum_by (free_in level inputs) parts
unfolding free_count
free_parts level inputs [] = refl
free_parts level inputs (p ∷ ps) =
    sum_by-cons (λ (s : ℕ × Bool). one_if (is_of_level level s.0 && not s.1)) (p.head.entries, is_among inputs p.head.id) (zip (sizes_of ps) (pinned inputs ps))
    ∙ ap (λ n. free_in level inputs p + n) (free_parts level inputs ps)
    ∙ sym (sum_by-cons (free_in level inputs) p ps)

one_le : (b : Bool) → one_if b ≤ 1
one_le true = omega arith
one_le false = omega arith

-- one segment more is one free one more at most
pub free_placed : (level : ℕ) (inputs : List ℕ) (p : LiveSegment) (old new : List LiveSegment) → IsPlaced p (parts_but [] old) new
    → free_count level (sizes_of new) (pinned inputs new) ≤ free_count level (sizes_of old) (pinned inputs old) + 1
free_placed level inputs p old new placed =
    omega (
      arith,
      free_parts level inputs new,
      free_parts level inputs old,
      total_placed (free_in level inputs) p (parts_but [] old) new placed,
      ap (sum_by (free_in level inputs)) (but_none old),
      one_le (is_of_level level p.head.entries && not (is_among inputs p.head.id)),
    )

-- ---- how many segments

-- of numbers that rise one is met once at most
met_once : (x : ℕ) (ids : List ℕ) → AllPairs (λ (m n : ℕ). m < n) ids → count_by (eqb x) ids ≤ 1
met_once x [] up = omega arith
met_once x (n ∷ ns) up = elim (cases_Bool (eqb x n)) [
  | inl here ↦ omega (arith, sum_by-cons (λ (m : ℕ). one_if (eqb x m)) n ns, ap one_if here, later (eqb-true x n here))
  | inr other ↦ omega (arith, sum_by-cons (λ (m : ℕ). one_if (eqb x m)) n ns, ap one_if other, met_once x ns (pairs_tail (λ (m k : ℕ). m < k) n ns up))
]
  where
    none : (ms : List ℕ) → ((m : ℕ) → Contains ms m → x ≡ m → ⊥) → count_by (eqb x) ms ≡ 0
    none [] apart = refl
    none (m ∷ ms) apart = elim (cases_Bool (eqb x m)) [
      | inl same ↦ absurd (apart m (cons_head m ms) (eqb-true x m same))
      | inr other ↦ omega (arith, sum_by-cons (λ (k : ℕ). one_if (eqb x k)) m ms, ap one_if other, none ms (λ k there. apart k (cons_tail m ms k there)))
    ]

    later : x ≡ n → count_by (eqb x) ns ≡ 0
    later is = none ns (λ m there same. let lt : n < m = pairs_head (λ (k l : ℕ). k < l) n ns up m there in omega (arith, lt, is, same))

or_le : (a b : Bool) → one_if (a || b) ≤ one_if a + one_if b
or_le true b = omega arith
or_le false b = omega arith

none_of : (ids : List ℕ) → count_by (is_among []) ids ≡ 0
none_of [] = refl
none_of (n ∷ ns) = omega (arith, sum_by-cons (λ (m : ℕ). one_if (is_among [] m)) n ns, none_of ns)

joined_le : (x : ℕ) (xs ids : List ℕ) → count_by (is_among (x ∷ xs)) ids ≤ count_by (eqb x) ids + count_by (is_among xs) ids
joined_le x xs [] = omega arith
joined_le x xs (n ∷ ns) =
    omega (
      arith,
      sum_by-cons (λ (m : ℕ). one_if (is_among (x ∷ xs) m)) n ns,
      sum_by-cons (λ (m : ℕ). one_if (eqb x m)) n ns,
      sum_by-cons (λ (m : ℕ). one_if (is_among xs m)) n ns,
      or_le (eqb x n) (is_among xs n),
      joined_le x xs ns,
    )

-- of numbers that rise no more are among these than these are
among_few : (inputs ids : List ℕ) → AllPairs (λ (m n : ℕ). m < n) ids → count_by (is_among inputs) ids ≤ length inputs
among_few [] ids up = omega (arith, none_of ids)
among_few (x ∷ xs) ids up = omega (arith, joined_le x xs ids, met_once x ids up, among_few xs ids up)

pins_counted : (inputs : List ℕ) (parts : List LiveSegment) → count_by (λ pin. pin) (pinned inputs parts) ≡ count_by (is_among inputs) (ids_of parts)
pins_counted inputs [] = refl
pins_counted inputs (p ∷ ps) =
    sum_by-cons (λ (b : Bool). one_if b) (is_among inputs p.head.id) (pinned inputs ps)
    ∙ ap (λ n. one_if (is_among inputs p.head.id) + n) (pins_counted inputs ps)
    ∙ sym (sum_by-cons (λ (m : ℕ). one_if (is_among inputs m)) p.head.id (ids_of ps))

-- where few segments are left beside the inputs, and few are inputs, there are few
pub few_segments : (inputs : List ℕ) (parts : List LiveSegment) → IsStrictlyIncreasing (ids_of parts) → length inputs ≤ 64
    → length parts ≤ 72 + count_by (λ pin. pin) (pinned inputs parts) → length parts < 200
few_segments inputs parts up few left =
    omega (arith, left, pins_counted inputs parts, among_few inputs (ids_of parts) (AllPairs-from_increasing (ids_of parts) up), few)
