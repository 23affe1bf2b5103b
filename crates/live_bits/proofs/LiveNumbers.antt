-- The numbers of a span, the live ones among them, and a set without one of its numbers.
use Rattle.std.proofs.Common.{◌≡◌, ◌<◌, ◌≤◌, ◌+◌, ◌-◌, ℕ, zero, suc, Bool, true, false, not, ◌&&◌, ◌||◌, cond, nat_eq}
use Rattle.std.proofs.Common.{List, [], ◌∷◌, length, get_or, refl, sym, ap, ◌∙◌, arith, inl, inr, ◌⊎◌, All, filter}
use Rattle.std.specs.Prelude.{AllPairs, ◌↔◌}
use Rattle.std.specs.List.{list_any}
use Rattle.std.specs.List.Sorted.{IsStrictlyIncreasing}
use Rattle.std.proofs.Math.Bool.{and_comm, and-true, and-false}
use Rattle.std.proofs.lemmas.Bool.{cases_eq, cases_lt, ne_eqb, eq-eqb, eqb-true, eqb-false, or_parts}
use Rattle.std.proofs.lemmas.List.{nil_from_length}
use Rattle.std.proofs.lemmas.List.Elements.{All-head, All-tail, All-filter}
use Rattle.std.proofs.lemmas.List.Filters.{length-filter_both}
use Rattle.std.proofs.lemmas.List.Folds.{list_any_at, list_any_none}
use Rattle.std.proofs.lemmas.List.Kept.{AllPairs-from_increasing, IsStrictlyIncreasing-filter}
use Rattle.std.proofs.lemmas.Map.Views.{any-filter_same}
use Rattle.live_bits.specs.LiveSet.{LiveSet, is_live, live_set_without, IsLiveSet}
use Rattle.live_bits.specs.LiveBody.{is_set, numbers_from, live_in, live_set, AreCountedBits}

-- ---- the numbers of a span

pub numbers_from-length : (first count : ℕ) → length (numbers_from first count) ≡ count
numbers_from-length first zero = refl
numbers_from-length first (suc n) = let e = numbers_from-length (first + 1) n in omega (arith, e)

pub numbers_from-at : (first count k d : ℕ) → k < count → get_or (numbers_from first count) k d ≡ first + k
numbers_from-at first zero k d lt = absurd (omega arith)
numbers_from-at first (suc n) zero d lt = omega arith
numbers_from-at first (suc n) (suc k) d lt = let e = numbers_from-at (first + 1) n k d (omega arith) in omega (arith, e)

numbers_increase : (first count : ℕ) → IsStrictlyIncreasing (numbers_from first count)
numbers_increase first count k lt =
    let len = numbers_from-length first count in
    let here = numbers_from-at first count k 0 (omega (arith, len)) in
    let next = numbers_from-at first count (k + 1) 0 (omega (arith, len)) in
    omega (arith, here, next)

numbers_within : (first count : ℕ) → All (λ n. (first ≤ n) × (n < first + count)) (numbers_from first count)
numbers_within first count k d lt =
    let small : k < count = omega (arith, numbers_from-length first count) in
    let here = numbers_from-at first count k d small in
    (omega (arith, here), omega (arith, here))

has_number : (first count n : ℕ) → first ≤ n → n < first + count → list_any (λ d. nat_eq d n) (numbers_from first count) ≡ true
has_number first count n above below =
    let here = numbers_from-at first count (n - first) 0 (omega arith) in
    list_any_at (λ (d : ℕ). nat_eq d n) (numbers_from first count) (n - first) 0 (omega (arith, numbers_from-length first count))
    (eq-eqb _ n (omega (arith, here)))

has_no_number : (first count n : ℕ) → ((m : ℕ) → first ≤ m → m < first + count → m ≡ n → ⊥) → list_any (λ d. nat_eq d n) (numbers_from first count) ≡ false
has_no_number first count n none =
    list_any_none (λ (d : ℕ). nat_eq d n) (numbers_from first count)
    (λ k d lt. let within = numbers_within first count k d lt in ne_eqb _ n (none _ within.0 within.1))

-- ---- which of them are live

live_is : (base span : ℕ) (bits : List ℕ) (n : ℕ)
    → is_live (live_set base span bits) n ≡ (is_set bits (n - base) && list_any (λ d. nat_eq d n) (numbers_from base span))
unfolding is_live live_in
live_is base span bits n =
    any-filter_same (λ (d : ℕ). nat_eq d n) (λ (m : ℕ). is_set bits (m - base)) (is_set bits (n - base))
    (λ k t. ap (λ (m : ℕ). is_set bits (m - base)) (eqb-true k n t)) (numbers_from base span)

pub live_inside : (base span : ℕ) (bits : List ℕ) (n : ℕ) → base ≤ n → n < base + span → is_live (live_set base span bits) n ≡ is_set bits (n - base)
live_inside base span bits n above below =
    live_is base span bits n ∙ ap (λ (x : Bool). is_set bits (n - base) && x) (has_number base span n above below) ∙ and-true (is_set bits (n - base))

pub live_outside : (base span : ℕ) (bits : List ℕ) (n : ℕ) → ((n < base) ⊎ (base + span ≤ n)) → is_live (live_set base span bits) n ≡ false
live_outside base span bits n out =
    live_is base span bits n
    ∙ ap (λ (x : Bool). is_set bits (n - base) && x) (has_no_number base span n (λ m above below e. elim out [ inl lt ↦ omega arith | inr le ↦ omega arith ]))
    ∙ and-false (is_set bits (n - base))

pub live_set_is : (base span : ℕ) (bits : List ℕ) → base + span ≤ 16777216 → IsLiveSet (live_set base span bits)
unfolding live_in
live_set_is base span bits limit = record {
  limit = limit;
  within = All-filter (λ (n : ℕ). is_set bits (n - base)) (λ (n : ℕ). (base ≤ n) × (n < base + span)) (numbers_from base span) (numbers_within base span);
  ascending = IsStrictlyIncreasing-filter (λ (n : ℕ). is_set bits (n - base)) (numbers_from base span) (numbers_increase base span);
}

-- ---- filters

filter_kept : (q : ℕ → Bool) (b : Bool) (x : ℕ) (xs : List ℕ) → filter q (cond b (x ∷ xs) xs) ≡ cond (b && q x) (x ∷ filter q xs) (filter q xs)
filter_kept q true x xs = refl
filter_kept q false x xs = refl

filter-filter : (p q : ℕ → Bool) (xs : List ℕ) → filter q (filter p xs) ≡ filter (λ x. p x && q x) xs
filter-filter p q [] = refl
filter-filter p q (x ∷ xs) =
    filter_kept q (p x) x (filter p xs) ∙ ap (λ (r : List ℕ). cond (p x && q x) (x ∷ r) r) (filter-filter p q xs)

filter_agree_on : (p q : ℕ → Bool) (xs : List ℕ) → All (λ x. p x ≡ q x) xs → filter p xs ≡ filter q xs
filter_agree_on p q [] all = refl
filter_agree_on p q (x ∷ xs) all =
    ap (λ (b : Bool). cond b (x ∷ filter p xs) (filter p xs)) (All-head (λ (y : ℕ). p y ≡ q y) x xs all)
    ∙ ap (λ (r : List ℕ). cond (q x) (x ∷ r) r) (filter_agree_on p q xs (All-tail (λ (y : ℕ). p y ≡ q y) x xs all))

filter_none : (p : ℕ → Bool) (xs : List ℕ) → All (λ x. p x ≡ false) xs → filter p xs ≡ []
filter_none p [] all = refl
filter_none p (x ∷ xs) all =
    ap (λ (b : Bool). cond b (x ∷ filter p xs) (filter p xs)) (All-head (λ (y : ℕ). p y ≡ false) x xs all)
    ∙ filter_none p xs (All-tail (λ (y : ℕ). p y ≡ false) x xs all)

-- ---- a set without a number

-- the bits without that of doc
pub live_in-cleared : (base span doc : ℕ) (bits new : List ℕ) → base ≤ doc → ((j : ℕ) → is_set new j ≡ (is_set bits j && not (nat_eq j (doc - base))))
    → live_in base span new ≡ filter (λ n. not (nat_eq n doc)) (live_in base span bits)
unfolding live_in
live_in-cleared base span doc bits new above cleared =
    filter_agree_on (λ (n : ℕ). is_set new (n - base)) (λ (n : ℕ). is_set bits (n - base) && not (nat_eq n doc)) (numbers_from base span)
    (λ k d lt.
    let n = get_or (numbers_from base span) k d in
    let within = numbers_within base span k d lt in
    let same : nat_eq (n - base) (doc - base) ≡ nat_eq n doc =
    elim (cases_eq n doc) [
      | inl e ↦ eq-eqb (n - base) (doc - base) (omega arith) ∙ sym (eq-eqb n doc e)
      | inr ne ↦ ne_eqb (n - base) (doc - base) (λ h. ne (omega arith)) ∙ sym (ne_eqb n doc ne)
    ] in
    cleared (n - base) ∙ ap (λ (x : Bool). is_set bits (n - base) && not x) same)
    ∙ sym (filter-filter (λ (n : ℕ). is_set bits (n - base)) (λ (n : ℕ). not (nat_eq n doc)) (numbers_from base span))

pub is_live-without : (s : LiveSet) (doc n : ℕ) → is_live (live_set_without doc s) n ≡ (is_live s n && not (nat_eq n doc))
unfolding is_live
is_live-without s doc n =
    any-filter_same (λ (d : ℕ). nat_eq d n) (λ (m : ℕ). not (nat_eq m doc)) (not (nat_eq n doc)) (λ k t. ap (λ (m : ℕ). not (nat_eq m doc)) (eqb-true k n t))
    s.live
    ∙ and_comm (not (nat_eq n doc)) (list_any (λ (d : ℕ). nat_eq d n) s.live)

-- ascending numbers have each number once
once : (doc : ℕ) (xs : List ℕ) → AllPairs (λ x y. x < y) xs → list_any (λ d. nat_eq d doc) xs ≡ true → length (filter (λ n. nat_eq n doc) xs) ≡ 1
once doc [] rises has = absurd cc
once doc (x ∷ xs) rises has =
    let others = filter (λ (n : ℕ). nat_eq n doc) xs in
    let rest_rises : AllPairs (λ (y z : ℕ). y < z) xs = λ i j d lt long. rises (suc i) (suc j) d (omega arith) (omega arith) in
    elim (cases_eq x doc) [
      | inl e ↦
          let none : All (λ (y : ℕ). nat_eq y doc ≡ false) xs = λ k d lt.
          ne_eqb (get_or xs k d) doc (λ h. let above : x < get_or xs k d = rises 0 (suc k) d (omega arith) (omega arith) in omega arith) in
          ap (λ (b : Bool). length (cond b (x ∷ others) others)) (eq-eqb x doc e)
          ∙ ap (λ (r : List ℕ). suc (length r)) (filter_none (λ (n : ℕ). nat_eq n doc) xs none)
      | inr ne ↦
          let in_rest : list_any (λ (d : ℕ). nat_eq d doc) xs ≡ true =
          sym (ap (λ (b : Bool). b || list_any (λ (d : ℕ). nat_eq d doc) xs) (ne_eqb x doc ne)) ∙ has in
          ap (λ (b : Bool). length (cond b (x ∷ others) others)) (ne_eqb x doc ne) ∙ once doc xs rest_rises in_rest
    ]

pub length-without : (s : LiveSet) (doc : ℕ) → IsLiveSet s → is_live s doc ≡ true → length (live_set_without doc s).live + 1 ≡ length s.live
unfolding is_live
length-without s doc h has =
    let one = once doc s.live (AllPairs-from_increasing s.live h.ascending) has in
    let both = length-filter_both (λ (n : ℕ). nat_eq n doc) (λ (n : ℕ). not (nat_eq n doc)) (λ x. refl) s.live in
    omega (arith, one, both)

all_kept : (doc : ℕ) (xs : List ℕ) → list_any (λ d. nat_eq d doc) xs ≡ false → filter (λ n. not (nat_eq n doc)) xs ≡ xs
all_kept doc [] none = refl
all_kept doc (x ∷ xs) none =
    let parts = or_parts (nat_eq x doc) (list_any (λ (d : ℕ). nat_eq d doc) xs) none in
    ap (λ (b : Bool). cond (not b) (x ∷ filter (λ (n : ℕ). not (nat_eq n doc)) xs) (filter (λ (n : ℕ). not (nat_eq n doc)) xs)) parts.0
    ∙ ap (λ (r : List ℕ). x ∷ r) (all_kept doc xs parts.1)

pub without-dead : (s : LiveSet) (doc : ℕ) → is_live s doc ≡ false → live_set_without doc s ≡ s
unfolding is_live
without-dead s doc dead = let kept = all_kept doc s.live dead in λ i. record { base = s.base; span = s.span; live = kept i }

pub IsLiveSet-without : (s : LiveSet) (doc : ℕ) → IsLiveSet s → IsLiveSet (live_set_without doc s)
IsLiveSet-without s doc h = record {
  limit = h.limit;
  within = All-filter (λ (n : ℕ). not (nat_eq n doc)) (λ (n : ℕ). (s.base ≤ n) × (n < s.base + s.span)) s.live h.within;
  ascending = IsStrictlyIncreasing-filter (λ (n : ℕ). not (nat_eq n doc)) s.live h.ascending;
}

-- ---- no number is live

no_numbers : (xs : List ℕ) → ((n : ℕ) → list_any (λ d. nat_eq d n) xs ≡ false) → length xs ≡ 0
no_numbers [] none = refl
no_numbers (x ∷ xs) none =
    let parts = or_parts (nat_eq x x) (list_any (λ (d : ℕ). nat_eq d x) xs) (none x) in
    absurd (eqb-false x x parts.0 refl)

pub none_live : (s : LiveSet) → (length s.live ≡ 0) ↔ (is_live s ≡ (λ _. false))
unfolding is_live
none_live s = (
  λ zero_long. let nil = nil_from_length s.live zero_long in λ i n. list_any (λ (d : ℕ). nat_eq d n) (nil i),
  λ none. no_numbers s.live (λ n. ap (λ (f : ℕ → Bool). f n) none),
)

-- ---- sets as they are kept

-- a live number lies in the span
pub live_bounds : (base span : ℕ) (bits : List ℕ) (n : ℕ) → is_live (live_set base span bits) n ≡ true → (base ≤ n) × (n < base + span)
live_bounds base span bits n live =
    elim (cases_lt n base) [
      | inl lt ↦ (let dead = live_outside base span bits n (inl lt) in absurd cc)
      | inr above ↦ elim (cases_lt n (base + span)) [ inl below ↦ (above, below) | inr le ↦ (let dead = live_outside base span bits n (inr le) in absurd cc) ]
    ]

-- new has the bits of old but that of doc
pub record IsCleared (base doc : ℕ) (old new : List ℕ) : Type 0 where
  pub len : length new ≡ length old
  pub bits : (j : ℕ) → is_set new j ≡ (is_set old j && not (nat_eq j (doc - base)))

pub cleared_view : (base span doc : ℕ) (old new : List ℕ) → base ≤ doc → IsCleared base doc old new
    → live_set base span new ≡ live_set_without doc (live_set base span old)
cleared_view base span doc old new above h =
    let live = live_in-cleared base span doc old new above h.bits in λ i. record { base = base; span = span; live = live i }

pub cleared_stored : (base span count doc : ℕ) (old new : List ℕ) → AreCountedBits base span count old → is_live (live_set base span old) doc ≡ true
    → IsCleared base doc old new → AreCountedBits base span (count - 1) new
cleared_stored base span count doc old new stored live h =
    let bounds = live_bounds base span old doc live in
    let fewer = length-without (live_set base span old) doc (live_set_is base span old stored.are_bits.limit) live in
    let numbers = live_in-cleared base span doc old new bounds.0 h.bits in
    let counted = stored.counted in
    record {
      are_bits = record {
        limit = stored.are_bits.limit;
        len = h.len ∙ stored.are_bits.len;
        past = λ i le. h.bits i ∙ ap (λ (x : Bool). x && not (nat_eq i (doc - base))) (stored.are_bits.past i le);
      };
      counted = omega (arith, fewer, ap length numbers);
    }

pub stored_some : (base span count doc : ℕ) (bits : List ℕ) → AreCountedBits base span count bits → is_live (live_set base span bits) doc ≡ true → 1 ≤ count
stored_some base span count doc bits stored live =
    let fewer = length-without (live_set base span bits) doc (live_set_is base span bits stored.are_bits.limit) live in
    let counted = stored.counted in
    omega (arith, fewer)
