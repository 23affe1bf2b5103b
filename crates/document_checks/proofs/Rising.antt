-- Numbers that rise along a list: those of one number stand in a row.
use Rattle.std.proofs.Common.{◌≡◌, ◌≢◌, ℕ, zero, suc, ◌+◌, ◌<◌, ◌≤◌, Bool, false, eqb, cond, List, [], ◌∷◌}
use Rattle.std.proofs.Common.{length, get_or, refl, sym, ap, ◌∙◌, inl, inr, arith, Ordering, Less, Equal, Greater}
use Rattle.std.specs.List.{All, AllPairs}
use Rattle.std.specs.List.Sorted.{IsSorted, IsStrictlySortedBy}
use Rattle.std.specs.Ordering.{int_cmp, nat_cmp, is_eq, is_lt, ordering_reverse, ordering_then}
use Rattle.std.specs.Cmp.Lexicographic.{slice_cmp}
use Rattle.std.proofs.lemmas.Bool.{cases_eq, cases_lt, eq-eqb, ne_eqb, true≢false, false≢true}
use Rattle.std.proofs.lemmas.Cmp.{by_ranked, ranked, tied_itself}
use Rattle.std.proofs.lemmas.List.Elements.{All-cons, All-head, All-tail, All-weaker}
use Rattle.std.proofs.lemmas.List.Sorted.{ranks_by, sorted_far}
use Rattle.std.proofs.lemmas.Map.Keys.{Less-from_sorted, sorted_from_all_adjacent}
use Rattle.point_codec.specs.Points.{Item}
use Rattle.leaf_codec.proofs.OrderLemmas.{count-cons}
use Rattle.documents.proofs.Lists.{pairs_after, pairs_tail}
use Rattle.documents.proofs.Totals.{item_total}
use Rattle.document_checks.specs.Crowded.{by_number, count_of}

-- ---- an order that is strict

abbrev pub NoTie : List Item → Type 0
NoTie xs = (k : ℕ) (d : Item) → k + 1 < length xs → is_eq (by_number (get_or xs k d) (get_or xs (k + 1) d)) ≡ false

next_less : (x y : Item) → is_lt (by_number y x) ≡ false → is_eq (by_number x y) ≡ false → by_number x y ≡ Less
next_less x y behind apart = by (by_number x y) refl
  where
    by : (o : Ordering) → by_number x y ≡ o → by_number x y ≡ Less
    by Less e = e
    by Equal e = absurd (true≢false (sym (ap is_eq e) ∙ apart))
    by Greater e = absurd (true≢false (sym (ap is_lt (item_total.antisymm y x ∙ ap ordering_reverse e)) ∙ behind))

strict : (xs : List Item) → IsSorted by_number xs → NoTie xs → IsStrictlySortedBy by_number xs
strict xs up apart =
    let none : Item = record { doc = 0; at = [] } in
    sorted_from_all_adjacent item_total xs none (λ k lt. next_less (get_or xs k none) (get_or xs (k + 1) none) (up k none (omega arith) lt) (apart k none lt))

pub apart_from : (xs : List Item) → IsSorted by_number xs → NoTie xs → AllPairs (λ (x y : Item). x ≢ y) xs
apart_from xs up apart i j d lt long e =
    let x : Item = get_or xs i d in
    let less : by_number x (get_or xs j d) ≡ Less = Less-from_sorted by_number xs i j d (strict xs up apart) lt long in
    let itself : by_number x x ≡ Less = ap (by_number x) e ∙ less in
    absurd (false≢true (ap is_eq (sym itself ∙ tied_itself item_total x)))

-- ---- the numbers rise

abbrev pub Rises : List Item → Type 0
Rises xs = AllPairs (λ x y. x.doc ≤ y.doc) xs

not_behind : (x y : Item) → is_lt (by_number y x) ≡ false → x.doc ≤ y.doc
not_behind x y behind = by_ranked (y.doc < x.doc) (y.doc ≡ x.doc) (x.doc < y.doc) (nat_cmp y.doc x.doc) (ranked y.doc x.doc (nat_cmp y.doc x.doc) refl)
    (λ is lt. absurd (true≢false (sym (ap (λ (o : Ordering). is_lt (ordering_then o (slice_cmp int_cmp y.at x.at))) is) ∙ behind)))
    (λ is same. omega (arith, same))
    (λ is lt. omega (arith, lt))

pub rises : (xs : List Item) → IsSorted by_number xs → Rises xs
rises xs up i j d lt long =
    not_behind (get_or xs i d) (get_or xs j d)
    (sorted_far (λ (x y : Item). is_lt (by_number x y)) (ranks_by item_total (λ (z : Item). z)) xs up i j d (omega arith) long)

abbrev pub has : ℕ → Item → Bool
has n x = eqb x.doc n

abbrev pub one_if : Bool → ℕ
one_if b = cond b 1 0

pub none_above : (n : ℕ) (xs : List Item) → All (λ (x : Item). n < x.doc) xs → count_of n xs ≡ 0
none_above n [] h = refl
none_above n (x ∷ xs) h =
    let lt = All-head (λ (y : Item). n < y.doc) x xs h in
    let apart : eqb x.doc n ≡ false = ne_eqb x.doc n (λ e. omega (arith, lt, e)) in
    omega (arith, count-cons (has n) x xs, ap one_if apart, none_above n xs (All-tail (λ (y : Item). n < y.doc) x xs h))

-- a list that rises from above n on has none of number n
absent : (n : ℕ) (x : Item) (xs : List Item) → Rises (x ∷ xs) → n < x.doc → count_of n (x ∷ xs) ≡ 0
absent n x xs up above =
    none_above n (x ∷ xs)
    (All-cons (λ (y : Item). n < y.doc) x xs above
    (All-weaker (λ (y : Item). x.doc ≤ y.doc) (λ (y : Item). n < y.doc) (λ y le. omega (arith, le, above)) xs
    (pairs_after (λ (a b : Item). a.doc ≤ b.doc) x xs up)))

one_more : (n : ℕ) (x : Item) (xs : List Item) → x.doc ≡ n → count_of n (x ∷ xs) ≡ 1 + count_of n xs
one_more n x xs e = count-cons (has n) x xs ∙ ap (λ (b : Bool). one_if b + count_of n xs) (eq-eqb x.doc n e)

from_first : (n : ℕ) (x : Item) (xs : List Item) → Rises (x ∷ xs) → n ≤ x.doc → All (λ (y : Item). n ≤ y.doc) (x ∷ xs)
from_first n x xs up low =
    All-cons (λ (y : Item). n ≤ y.doc) x xs low
    (All-weaker (λ (y : Item). x.doc ≤ y.doc) (λ (y : Item). n ≤ y.doc) (λ y le. omega (arith, le, low)) xs
    (pairs_after (λ (a b : Item). a.doc ≤ b.doc) x xs up))

tail_rises : (x : Item) (xs : List Item) → Rises (x ∷ xs) → Rises xs
tail_rises x xs up = pairs_tail (λ (a b : Item). a.doc ≤ b.doc) x xs up

-- of a list that rises from n on, those of number n come first
in_front : (n k : ℕ) (xs : List Item) → Rises xs → All (λ (x : Item). n ≤ x.doc) xs → k < count_of n xs → (d : Item)
    → (k < length xs) × ((get_or xs k d).doc ≡ n)
in_front n k [] up from lt d = absurd (omega (arith, lt))
in_front n zero (x ∷ xs) up from lt d = elim (cases_eq x.doc n) [
  | inl here ↦ (omega arith, here)
  | inr apart ↦
      let low = All-head (λ (y : Item). n ≤ y.doc) x xs from in
      absurd (omega (arith, lt, absent n x xs up (omega (arith, low, apart))))
]
in_front n (suc k) (x ∷ xs) up from lt d = elim (cases_eq x.doc n) [
  | inl here ↦
      let rest = in_front n k xs (tail_rises x xs up) (All-tail (λ (y : Item). n ≤ y.doc) x xs from) (omega (arith, lt, one_more n x xs here)) d in
      (omega (arith, rest.0), rest.1)
  | inr apart ↦
      let low = All-head (λ (y : Item). n ≤ y.doc) x xs from in
      absurd (omega (arith, lt, absent n x xs up (omega (arith, low, apart))))
]

-- where no entry has the number of the m-th after it, no number has more than m
pub most : (n m : ℕ) (xs : List Item) → Rises xs → ((k : ℕ) (d : Item) → k + m < length xs → (get_or xs k d).doc ≢ (get_or xs (k + m) d).doc)
    → count_of n xs ≤ m
most n m [] up gap = omega arith
most n m (x ∷ xs) up gap = elim (cases_eq x.doc n) [
  | inr apart ↦
      let next : (k : ℕ) → suc k + m ≡ suc (k + m) = λ k. omega arith in
      let rest =
      most n m xs (tail_rises x xs up)
      (λ k d lt e. gap (suc k) d (omega (arith, lt)) (e ∙ ap (λ (j : ℕ). (get_or (x ∷ xs) j d).doc) (sym (next k)))) in
      omega (arith, count-cons (has n) x xs, ap one_if (ne_eqb x.doc n apart), rest)
  | inl here ↦ elim (cases_lt m (count_of n (x ∷ xs))) [
    | inr few ↦ few
    | inl many ↦
        let there = in_front n m (x ∷ xs) up (from_first n x xs up (omega (arith, here))) many x in
        let on : 0 + m ≡ m = omega arith in
        absurd (gap zero x (omega (arith, there.0)) (here ∙ sym there.1 ∙ ap (λ (j : ℕ). (get_or (x ∷ xs) j x).doc) (sym on)))
  ]
]

-- and where one has, the number has more
run_from : (n m : ℕ) (xs : List Item) (d : Item) → Rises xs → All (λ (x : Item). n ≤ x.doc) xs → m < length xs → (get_or xs m d).doc ≡ n → m < count_of n xs
run_from n m [] d up from lt last = absurd (omega arith)
run_from n zero (x ∷ xs) d up from lt last = omega (arith, one_more n x xs last)
run_from n (suc m) (x ∷ xs) d up from lt last =
    let rest = run_from n m xs d (tail_rises x xs up) (All-tail (λ (y : Item). n ≤ y.doc) x xs from) (omega arith) last in
    let low = All-head (λ (y : Item). n ≤ y.doc) x xs from in
    let high : x.doc ≤ (get_or xs m d).doc = up zero (suc m) d (omega arith) lt in
    omega (arith, one_more n x xs (omega (arith, low, high, last)), rest)

pub run : (n m i : ℕ) (xs : List Item) (d : Item) → Rises xs → i + m < length xs → (get_or xs i d).doc ≡ n → (get_or xs (i + m) d).doc ≡ n → m < count_of n xs
run n m i [] d up lt first last = absurd (omega arith)
run n m zero (x ∷ xs) d up lt first last =
    let on : m ≡ 0 + m = omega arith in
    run_from n m (x ∷ xs) d up (from_first n x xs up (omega (arith, first))) (omega arith) (ap (λ (k : ℕ). (get_or (x ∷ xs) k d).doc) on ∙ last)
run n m (suc i) (x ∷ xs) d up lt first last =
    let next : suc (i + m) ≡ suc i + m = omega arith in
    let rest = run n m i xs d (tail_rises x xs up) (omega arith) first (ap (λ (k : ℕ). (get_or (x ∷ xs) k d).doc) next ∙ last) in
    omega (arith, count-cons (has n) x xs, rest)
