-- Entries that each had a number that was left when they were passed: no two of them have one number.
use Rattle.std.proofs.Common.{◌≡◌, ℕ, ◌+◌, ◌<◌, ◌≤◌, Bool, true, false, not, ◌&&◌, eqb, cond, List}
use Rattle.std.proofs.Common.{[], ◌∷◌, length, take, get_or, refl, sym, ap, subst, ◌∙◌, inl, inr, arith}
use Rattle.std.specs.List.{filter, count_by, list_any}
use Rattle.std.proofs.lemmas.Bool.{and_parts, cases_eq, eq-eqb, eqb-true, false≢true, ne_eqb, or_cases, or_parts}
use Rattle.std.proofs.lemmas.List.{take_all}
use Rattle.std.proofs.lemmas.List.Sums.{sum_by_more, sum_by-cons}
use Rattle.point_codec.specs.Seen.{items_of}
use Rattle.point_codec.specs.declared.entries.Entry.{Entry}
use Rattle.leaf_codec.specs.LeafOrder.{NoneTwice}
use Rattle.live_bits.specs.LiveSet.{LiveSet, is_live}
use Rattle.document_checks.specs.Crowded.{AreFew}
use Rattle.document_checks.proofs.Moved.{count_entries, lone}
use Rattle.document_checks.proofs.WithEntries.{bare, has}

abbrev one_if : Bool → ℕ
one_if b = cond b 1 0

abbrev pub count : {D : ℕ} → ℕ → List (Entry D) → ℕ
count n es = count_by (λ e. eqb e.doc n) es

-- where it is said that they are alone, no two have one number
abbrev pub AreAlone : {D : ℕ} → Bool → List (Entry D) → Type 0
AreAlone alone es = alone ≡ true → (n : ℕ) → count n es ≤ 1

pub alone_none : (D : ℕ) → AreAlone {D = D} true []
alone_none D e n = omega arith

-- ---- what is left

-- what is among the numbers that pass a test passes it
passes : (p : ℕ → Bool) (n : ℕ) (ns : List ℕ) → list_any (λ d. eqb d n) (filter p ns) ≡ true → p n ≡ true
passes p n [] e = absurd (false≢true e)
passes p n (m ∷ ms) e = by (p m) refl (passes p n ms) e
  where
    by : (b : Bool) → p m ≡ b → (list_any (λ d. eqb d n) (filter p ms) ≡ true → p n ≡ true)
        → list_any (λ d. eqb d n) (cond b (m ∷ filter p ms) (filter p ms)) ≡ true → p n ≡ true
    by true first rest some = elim (or_cases (eqb m n) (list_any (λ d. eqb d n) (filter p ms)) some) [
      | inl same ↦ ap p (sym (eqb-true m n same)) ∙ first
      | inr later ↦ rest later
    ]
    by false first rest some = rest some

no_from : (b : Bool) → not b ≡ true → b ≡ false
no_from true e = absurd (false≢true e)
no_from false e = refl

live_among : (s : LiveSet) (n : ℕ) → is_live s n ≡ list_any (λ d. eqb d n) s.live
unfolding is_live
live_among s n = refl

-- a number that is left has no entry among those passed
left_has_none : {D : ℕ} (numbers : List ℕ) (es : List (Entry D)) (left : LiveSet) (n : ℕ) → left.live ≡ bare es numbers → is_live left n ≡ true
    → has es n ≡ false
left_has_none numbers es left n is live =
    no_from (has es n)
    (passes (λ m. not (has es m)) n numbers (ap (λ (ns : List ℕ). list_any (λ d. eqb d n) ns) (sym is) ∙ sym (live_among left n) ∙ live))

none_counted : {D : ℕ} (n : ℕ) (es : List (Entry D)) → has es n ≡ false → count n es ≡ 0
none_counted n [] e = refl
none_counted {D} n (x ∷ xs) e =
    let parts = or_parts (eqb x.doc n) (has xs n) e in
    omega (arith, sum_by-cons (λ (y : Entry D). one_if (eqb y.doc n)) x xs, ap one_if parts.0, none_counted n xs parts.1)

-- ---- an entry more

pub alone_more : {D : ℕ} (numbers : List ℕ) (es : List (Entry D)) (i : ℕ) (x : Entry D) (alone was : Bool) (left : LiveSet) → i < length es → x ≡ get_or es i x
    → left.live ≡ bare (take i es) numbers
    → was ≡ is_live left x.doc → AreAlone alone (take i es) → AreAlone (alone && was) (take (i + 1) es)
alone_more {D} numbers es i x alone was left lt is kept live before both n =
    let parts = and_parts alone was both in
    let step : count n (take (i + 1) es) ≡ count n (take i es) + one_if (eqb x.doc n) =
    sum_by_more (λ (y : Entry D). one_if (eqb y.doc n)) es i x lt ∙ ap (λ (y : Entry D). count n (take i es) + one_if (eqb y.doc n)) (sym is) in
    elim (cases_eq x.doc n) [
      | inr ne ↦ omega (arith, step, ap one_if (ne_eqb x.doc n ne), before parts.0 n)
      | inl same ↦
          let none = left_has_none numbers (take i es) left x.doc kept (sym live ∙ parts.1) in
          let zero : count n (take i es) ≡ 0 = none_counted n (take i es) (ap (λ (m : ℕ). has (take i es) m) (sym same) ∙ none) in
          omega (arith, step, ap one_if (eq-eqb x.doc n same), zero)
    ]

pub alone_all : {D : ℕ} (es : List (Entry D)) (i : ℕ) (alone : Bool) → length es ≤ i → AreAlone alone (take i es) → alone ≡ true
    → NoneTwice (items_of es) × AreFew (items_of es)
alone_all {D} es i alone le h e =
    lone (items_of es)
    (λ n. omega (arith, count_entries n es, subst (λ (xs : List (Entry D)). count n xs ≤ 1) (take_all i es le) (h e n)))
