-- Where as many numbers are live as have a bit, each one is.
use Rattle.std.proofs.Common.{◌≡◌, ◌<◌, ◌≤◌, ◌+◌, ◌-◌, ℕ, zero, suc, Bool, true, false, List, ◌∷◌, filter, length, cond, refl, ap, ◌∙◌, inl, inr, arith}
use Rattle.std.proofs.lemmas.Bool.{cases_eq}
use Rattle.std.proofs.lemmas.List.Sums.{length-filter, count_by-le-length}
use Rattle.live_bits.specs.LiveBody.{is_set, live_in, numbers_from}
use Rattle.live_bits.proofs.LiveNumbers.{numbers_from-length}

-- where all numbers from the first on pass a test, so does this one
all_pass : (p : ℕ → Bool) (first count : ℕ) → length (filter p (numbers_from first count)) ≡ count → (i : ℕ) → i < count → p (first + i) ≡ true
all_pass p first zero e i lt = absurd (omega (arith, lt))
all_pass p first (suc count) e i lt = by (p first) refl (all_pass p (first + 1) count) e
  where
    rest : List ℕ
    rest = numbers_from (first + 1) count

    few : length (filter p rest) ≤ count
    few = omega (arith, length-filter p rest, count_by-le-length p rest, numbers_from-length (first + 1) count)

    by : (b : Bool) → p first ≡ b → (length (filter p rest) ≡ count → (j : ℕ) → j < count → p (first + 1 + j) ≡ true)
        → length (cond b (first ∷ filter p rest) (filter p rest)) ≡ suc count → p (first + i) ≡ true
    by false fails later all = absurd (omega (arith, few, all))
    by true passes later all = elim (cases_eq i 0) [
      | inl here ↦ ap p (omega (arith, here)) ∙ passes
      | inr there ↦
          let place : first + i ≡ first + 1 + (i - 1) = omega (arith, there) in
          ap p place ∙ later (omega (arith, all)) (i - 1) (omega (arith, there, lt))
    ]

pub all_live : (base span n : ℕ) (bits : List ℕ) → length (live_in base span bits) ≡ span → base ≤ n → n < base + span → is_set bits (n - base) ≡ true
unfolding live_in
all_live base span n bits full low high =
    let place : n ≡ base + (n - base) = omega (arith, low) in
    ap (λ (m : ℕ). is_set bits (m - base)) place ∙ all_pass (λ (m : ℕ). is_set bits (m - base)) base span full (n - base) (omega (arith, low, high))
