-- Which numbers were seen among the first elements of a list, and which again.
use Rattle.std.proofs.Common.{◌≡◌, ℕ, ◌+◌, ◌-◌, ◌<◌, ◌≤◌, Bool, true, false, ◌&&◌, ◌||◌, eqb, cond, List}
use Rattle.std.proofs.Common.{[], length, get_or, take, sym, ap, ◌∙◌, inl, inr, arith}
use Rattle.std.specs.List.{count_by}
use Rattle.std.proofs.lemmas.Bool.{and_from, cases_eq, cases_lt, eq-eqb, false≢true, ne_eqb, or_left, or_parts, or_right}
use Rattle.std.proofs.lemmas.List.Sums.{sum_by_more}
use Rattle.document_checks.specs.Marks.{is_marked}

module _ {X : Type 0} (doc : X → ℕ) (base : ℕ) where
  abbrev pub count : ℕ → List X → ℕ
  count n xs = count_by (λ (x : X). eqb (doc x) n) xs

  -- numbers that the list has are marked as seen, and those that it has twice are marked again
  pub record IsSeen (xs : List X) (some : Bool) (seen again : List ℕ) : Type 0 where
    pub once : (n : ℕ) → 1 ≤ count n xs → is_marked seen (n - base) ≡ true
    pub twice : (n : ℕ) → 2 ≤ count n xs → is_marked again (n - base) ≡ true
    pub none : some ≡ false → (n : ℕ) → count n xs ≤ 1

  pub seen_none : (seen again : List ℕ) → IsSeen [] false seen again
  seen_none seen again = record {
    once = λ n some. absurd (omega (arith, some));
    twice = λ n two. absurd (omega (arith, two));
    none = λ e n. omega arith;
  }

  pub seen_more : (xs : List X) (i : ℕ) (x : X) (some r : Bool) (seen again seen' again' : List ℕ) → i < length xs → x ≡ get_or xs i x
      → IsSeen (take i xs) some seen again
      → r ≡ is_marked seen (doc x - base) → ((m : ℕ) → is_marked seen' m ≡ (is_marked seen m || eqb m (doc x - base)))
      → ((m : ℕ) → is_marked again' m ≡ (is_marked again m || (is_marked seen (doc x - base) && eqb m (doc x - base))))
      → IsSeen (take (i + 1) xs) (some || r) seen' again'
  seen_more xs i x some r seen again seen' again' lt is h was now_seen now_again = record { once = once; twice = twice; none = none }
    where
      place : ℕ
      place = doc x - base

      step : (n : ℕ) → count n (take (i + 1) xs) ≡ count n (take i xs) + cond (eqb (doc x) n) 1 0
      step n =
          sum_by_more (λ (y : X). cond (eqb (doc y) n) 1 0) xs i x lt
          ∙ ap (λ (y : X). count n (take i xs) + cond (eqb (doc y) n) 1 0) (sym is)

      one_more : (n : ℕ) → doc x ≡ n → count n (take (i + 1) xs) ≡ count n (take i xs) + 1
      one_more n e = step n ∙ ap (λ (b : Bool). count n (take i xs) + cond b 1 0) (eq-eqb (doc x) n e)

      no_more : (n : ℕ) → (doc x ≡ n → ⊥) → count n (take (i + 1) xs) ≡ count n (take i xs)
      no_more n ne = step n ∙ ap (λ (b : Bool). count n (take i xs) + cond b 1 0) (ne_eqb (doc x) n ne) ∙ omega arith

      here : (n : ℕ) → doc x ≡ n → eqb (n - base) place ≡ true
      here n e = eq-eqb (n - base) place (ap (λ (m : ℕ). m - base) (sym e))

      once : (n : ℕ) → 1 ≤ count n (take (i + 1) xs) → is_marked seen' (n - base) ≡ true
      once n one = now_seen (n - base) ∙ elim (cases_eq (doc x) n) [
        | inl e ↦ or_right (is_marked seen (n - base)) (eqb (n - base) place) (here n e)
        | inr ne ↦ or_left (is_marked seen (n - base)) (eqb (n - base) place) (h.once n (omega (arith, one, no_more n ne)))
      ]

      twice : (n : ℕ) → 2 ≤ count n (take (i + 1) xs) → is_marked again' (n - base) ≡ true
      twice n two = now_again (n - base) ∙ elim (cases_eq (doc x) n) [
        | inl e ↦
            let before : is_marked seen place ≡ true = ap (λ (m : ℕ). is_marked seen (m - base)) e ∙ h.once n (omega (arith, two, one_more n e)) in
            or_right (is_marked again (n - base)) (is_marked seen place && eqb (n - base) place)
            (and_from (is_marked seen place) (eqb (n - base) place) before (here n e))
        | inr ne ↦ or_left (is_marked again (n - base)) (is_marked seen place && eqb (n - base) place) (h.twice n (omega (arith, two, no_more n ne)))
      ]

      none : (some || r) ≡ false → (n : ℕ) → count n (take (i + 1) xs) ≤ 1
      none e n =
          let neither = or_parts some r e in
          let before = h.none neither.0 n in
          elim (cases_eq (doc x) n) [
            | inr ne ↦ omega (arith, before, no_more n ne)
            | inl same ↦ elim (cases_lt 0 (count n (take i xs))) [
              | inr zero ↦ omega (arith, zero, one_more n same)
              | inl one ↦
                  let seen_before : is_marked seen place ≡ true = ap (λ (m : ℕ). is_marked seen (m - base)) same ∙ h.once n one in
                  absurd (false≢true (sym neither.1 ∙ was ∙ seen_before))
            ]
          ]
