-- No more entries than live numbers, each of which has one: each has just one, and there are as many.
use Rattle.std.proofs.Common.{◌≡◌, ℕ, zero, suc, ◌+◌, ◌≤◌, ◌<◌, ◌⊎◌, Bool, true, false, eqb, List, [], ◌∷◌, length, refl, ap, subst, inl, inr, arith}
use Rattle.std.specs.List.{Contains}
use Rattle.std.proofs.lemmas.Bool.{cases_lt, false≢true, or_cases}
use Rattle.std.proofs.lemmas.List.Elements.{All-weaker}
use Rattle.std.proofs.lemmas.List.Kept.{AllPairs-from_increasing}
use Rattle.point_codec.specs.Points.{Item}
use Rattle.live_bits.specs.LiveSet.{LiveSet, IsLiveSet}
use Rattle.documents.specs.Entries.{has_entry, is_among}
use Rattle.documents.proofs.Kept.{among_to}
use Rattle.document_checks.specs.Crowded.{count_of}
use Rattle.folder_check.proofs.Entries.{count-cons, one_if}
use Rattle.folder_check.proofs.Totals.{other_number, total, total_alike, total_among, total_none, total_one, total_sum}

-- ---- sums over the numbers below n

-- of no number more than once
total_once : (x n : ℕ) → total (λ m. one_if (eqb x m)) n ≤ 1
total_once x n = elim (cases_lt x n) [
  | inl lt ↦ omega (arith, total_one x n lt)
  | inr le ↦ omega (arith, total_none (λ m. one_if (eqb x m)) n (λ m less. ap one_if (other_number x m (λ e. omega (arith, e, le, less)))))
]

-- entries are counted once at most
total_counted : (xs : List Item) (n : ℕ) → total (λ m. count_of m xs) n ≤ length xs
total_counted [] n = omega (arith, total_none (λ m. count_of m []) n (λ m lt. refl))
total_counted (x ∷ xs) n =
    let step = total_alike (λ m. count_of m (x ∷ xs)) (λ m. one_if (eqb x.doc m) + count_of m xs) n (λ m lt. count-cons (λ (y : Item). eqb y.doc m) x xs) in
    omega (arith, step, total_sum (λ m. one_if (eqb x.doc m)) (λ m. count_of m xs) n, total_once x.doc n, total_counted xs n)

total_le : (f g : ℕ → ℕ) (n : ℕ) → ((m : ℕ) → f m ≤ g m) → total f n ≤ total g n
total_le f g zero le = omega arith
total_le f g (suc n) le = omega (arith, total_le f g n le, le n)

-- where no number has more of f than of g, and g has no more in all, each has as many
total_tight : (f g : ℕ → ℕ) (n : ℕ) → ((m : ℕ) → f m ≤ g m) → total g n ≤ total f n → (m : ℕ) → m < n → g m ≤ f m
total_tight f g zero le most m lt = absurd (omega (arith, lt))
total_tight f g (suc n) le most m lt = by (total_tight f g n le (omega (arith, most, le n)) m) (cases_lt m n)
  where
    by : (m < n → g m ≤ f m) → (m < n) ⊎ (n ≤ m) → g m ≤ f m
    by rest (inl less) = rest less
    by rest (inr here) =
        let is : n ≡ m = omega (arith, lt, here) in
        let last : g n ≤ f n = omega (arith, most, total_le f g n le) in
        subst (λ k. g k ≤ f k) is last

-- ---- entries and numbers

some_counted : (n : ℕ) (xs : List Item) → has_entry n xs ≡ true → 1 ≤ count_of n xs
some_counted n [] e = absurd (false≢true e)
some_counted n (x ∷ xs) e = by (some_counted n xs) (or_cases (eqb x.doc n) (has_entry n xs) e)
  where
    by : (has_entry n xs ≡ true → 1 ≤ count_of n xs) → (eqb x.doc n ≡ true) ⊎ (has_entry n xs ≡ true) → 1 ≤ count_of n (x ∷ xs)
    by rest (inl here) = omega (arith, count-cons (λ (y : Item). eqb y.doc n) x xs, ap one_if here)
    by rest (inr later) = omega (arith, count-cons (λ (y : Item). eqb y.doc n) x xs, rest later)

among_counted : (numbers : List ℕ) (xs : List Item) → ((n : ℕ) → Contains numbers n → has_entry n xs ≡ true) → (m : ℕ)
    → one_if (is_among numbers m) ≤ count_of m xs
among_counted numbers xs each m = by (is_among numbers m) refl
  where
    by : (b : Bool) → is_among numbers m ≡ b → one_if b ≤ count_of m xs
    by true there = some_counted m xs (each m (among_to numbers m there))
    by false none = omega arith

small : (b : Bool) → one_if b ≤ 1
small true = omega arith
small false = omega arith

one_below : (s : LiveSet) (xs : List Item) (n : ℕ) → IsLiveSet s → s.base + s.span ≤ n → length xs ≤ length s.live
    → ((k : ℕ) → Contains s.live k → has_entry k xs ≡ true) → ((m : ℕ) → m < n → count_of m xs ≤ 1) × (length s.live ≤ length xs)
one_below s xs n set end few each =
    let all : total (λ m. one_if (is_among s.live m)) n ≡ length s.live =
    total_among s.live n (AllPairs-from_increasing s.live set.ascending)
    (All-weaker (λ k. (s.base ≤ k) × (k < s.base + s.span)) (λ k. k < n) (λ k h. omega (arith, h.1, end)) s.live set.within) in
    let some = among_counted s.live xs each in
    let more = total_le (λ m. one_if (is_among s.live m)) (λ m. count_of m xs) n some in
    let counted = total_counted xs n in
    let most : total (λ m. count_of m xs) n ≤ total (λ m. one_if (is_among s.live m)) n = omega (arith, all, few, counted) in (
      λ m lt. omega (arith, total_tight (λ k. one_if (is_among s.live k)) (λ k. count_of k xs) n some most m lt, small (is_among s.live m)),
      omega (arith, all, more, counted),
    )

pub one_each : (s : LiveSet) (xs : List Item) → IsLiveSet s → length xs ≤ length s.live → ((n : ℕ) → Contains s.live n → has_entry n xs ≡ true)
    → ((m : ℕ) → count_of m xs ≤ 1) × (length s.live ≤ length xs)
one_each s xs set few each = (
  λ m. (one_below s xs (s.base + s.span + m + 1) set (omega arith) few each).0 m (omega arith),
  (one_below s xs (s.base + s.span) set (omega arith) few each).1,
)
