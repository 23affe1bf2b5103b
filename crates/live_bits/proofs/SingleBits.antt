-- Single bits of bytes, after one is set or cleared.
use Rattle.std.proofs.Common.{◌≡◌, ◌<◌, ◌+◌, ◌-◌, ◌*◌, ◌/◌, ◌%◌, ◌^◌, ℕ, zero, suc, Bool, not, ◌&&◌, ◌||◌, nat_eq, List, length, get_or}
use Rattle.std.proofs.Common.{bit_and, bit_or, refl, sym, ap, subst, ◌∙◌, arith, inl, inr, get_or-set_same, get_or-set_other, slice_set}
use Rattle.std.proofs.Math.Bool.{and-true, or-false}
use Rattle.std.proofs.lemmas.Bool.{cases_eq, ne_eqb, eq-eqb, agree_below_at}
use Rattle.std.proofs.lemmas.Nat.{or_shr, or_mod, and_shr, and_mod}
use Rattle.live_bits.specs.LiveBody.{is_set}

-- ---- `|` and `&` bit by bit

or_digit : (u v : ℕ) → u < 2 → v < 2 → nat_eq (bit_or u v) 1 ≡ (nat_eq u 1 || nat_eq v 1)
or_digit zero zero p q = refl
or_digit zero (suc zero) p q = refl
or_digit (suc zero) zero p q = refl
or_digit (suc zero) (suc zero) p q = refl
or_digit zero (suc (suc v)) p q = absurd (omega arith)
or_digit (suc zero) (suc (suc v)) p q = absurd (omega arith)
or_digit (suc (suc u)) v p q = absurd (omega arith)

and_digit : (u v : ℕ) → u < 2 → v < 2 → nat_eq (bit_and u v) 1 ≡ (nat_eq u 1 && nat_eq v 1)
and_digit zero zero p q = refl
and_digit zero (suc zero) p q = refl
and_digit (suc zero) zero p q = refl
and_digit (suc zero) (suc zero) p q = refl
and_digit zero (suc (suc v)) p q = absurd (omega arith)
and_digit (suc zero) (suc (suc v)) p q = absurd (omega arith)
and_digit (suc (suc u)) v p q = absurd (omega arith)

pub or_bit : (a b j : ℕ) → nat_eq (bit_or a b / 2 ^ j % 2) 1 ≡ (nat_eq (a / 2 ^ j % 2) 1 || nat_eq (b / 2 ^ j % 2) 1)
or_bit a b j =
    ap (λ (x : ℕ). nat_eq (x % 2) 1) (or_shr a b j) ∙ ap (λ (x : ℕ). nat_eq x 1) (or_mod (a / 2 ^ j) (b / 2 ^ j) 1)
    ∙ or_digit (a / 2 ^ j % 2) (b / 2 ^ j % 2) (omega arith) (omega arith)

pub and_bit : (a b j : ℕ) → nat_eq (bit_and a b / 2 ^ j % 2) 1 ≡ (nat_eq (a / 2 ^ j % 2) 1 && nat_eq (b / 2 ^ j % 2) 1)
and_bit a b j =
    ap (λ (x : ℕ). nat_eq (x % 2) 1) (and_shr a b j) ∙ ap (λ (x : ℕ). nat_eq x 1) (and_mod (a / 2 ^ j) (b / 2 ^ j) 1)
    ∙ and_digit (a / 2 ^ j % 2) (b / 2 ^ j % 2) (omega arith) (omega arith)

-- ---- the bits of `1 << k` and of `!(1 << k)` in a byte, j and k packed into one number below 64

abbrev shifted : ℕ → Bool
shifted m = nat_eq (1 * 2 ^ (m % 8) % 256 / 2 ^ (m / 8) % 2) 1

abbrev masked : ℕ → Bool
masked m = nat_eq ((255 - 1 * 2 ^ (m % 8) % 256) / 2 ^ (m / 8) % 2) 1

abbrev same : ℕ → Bool
same m = nat_eq (m / 8) (m % 8)

abbrev other : ℕ → Bool
other m = not (same m)

shifted_bit : (j k : ℕ) → j < 8 → k < 8 → nat_eq (1 * 2 ^ k % 256 / 2 ^ j % 2) 1 ≡ nat_eq j k
shifted_bit j k hj hk =
    let high : (8 * j + k) / 8 ≡ j = omega arith in
    let low : (8 * j + k) % 8 ≡ k = omega arith in
    subst (λ (x : ℕ). nat_eq (1 * 2 ^ k % 256 / 2 ^ x % 2) 1 ≡ nat_eq x k) high
    (subst (λ (x : ℕ). nat_eq (1 * 2 ^ x % 256 / 2 ^ ((8 * j + k) / 8) % 2) 1 ≡ nat_eq ((8 * j + k) / 8) x) low
    (agree_below_at shifted same 64 (8 * j + k) refl (omega arith)))

masked_bit : (j k : ℕ) → j < 8 → k < 8 → nat_eq ((255 - 1 * 2 ^ k % 256) / 2 ^ j % 2) 1 ≡ not (nat_eq j k)
masked_bit j k hj hk =
    let high : (8 * j + k) / 8 ≡ j = omega arith in
    let low : (8 * j + k) % 8 ≡ k = omega arith in
    subst (λ (x : ℕ). nat_eq ((255 - 1 * 2 ^ k % 256) / 2 ^ x % 2) 1 ≡ not (nat_eq x k)) high
    (subst (λ (x : ℕ). nat_eq ((255 - 1 * 2 ^ x % 256) / 2 ^ ((8 * j + k) / 8) % 2) 1 ≡ not (nat_eq ((8 * j + k) / 8) x)) low
    (agree_below_at masked other 64 (8 * j + k) refl (omega arith)))

-- ---- bit j of the bytes after a write of bit i

-- places in one byte are one place where they are one bit of it
same_place : (i j : ℕ) → j / 8 ≡ i / 8 → nat_eq (j % 8) (i % 8) ≡ nat_eq j i
same_place i j e =
    elim (cases_eq j i) [
      | inl eq ↦ eq-eqb (j % 8) (i % 8) (ap (λ (x : ℕ). x % 8) eq) ∙ sym (eq-eqb j i eq)
      | inr ne ↦ ne_eqb (j % 8) (i % 8) (λ h. ne (omega arith)) ∙ sym (ne_eqb j i ne)
    ]

-- a write of one byte leaves the bits of the others
other_byte : (bits : List ℕ) (i j v : ℕ) → (j / 8 ≡ i / 8 → ⊥) → is_set (slice_set bits (i / 8) v) j ≡ is_set bits j
other_byte bits i j v ne = ap (λ (b : ℕ). nat_eq (b / 2 ^ (j % 8) % 2) 1) (get_or-set_other bits (i / 8) (j / 8) v 0 ne)

this_byte : (bits : List ℕ) (i j v : ℕ) → i / 8 < length bits → j / 8 ≡ i / 8 → is_set (slice_set bits (i / 8) v) j ≡ nat_eq (v / 2 ^ (j % 8) % 2) 1
this_byte bits i j v lt e =
    ap (λ (b : ℕ). nat_eq (b / 2 ^ (j % 8) % 2) 1) (ap (λ (k : ℕ). get_or (slice_set bits (i / 8) v) k 0) e ∙ get_or-set_same bits (i / 8) v 0 lt)

pub set_bit_is : (bits : List ℕ) (i j : ℕ) → i / 8 < length bits
    → is_set (slice_set bits (i / 8) (bit_or (get_or bits (i / 8) 0) (1 * 2 ^ (i % 8) % 256))) j ≡ (is_set bits j || nat_eq j i)
set_bit_is bits i j lt =
    elim (cases_eq (j / 8) (i / 8)) [
      | inl e ↦
          this_byte bits i j (bit_or (get_or bits (i / 8) 0) (1 * 2 ^ (i % 8) % 256)) lt e
          ∙ or_bit (get_or bits (i / 8) 0) (1 * 2 ^ (i % 8) % 256) (j % 8)
          ∙ ap (λ (k : ℕ). nat_eq (get_or bits k 0 / 2 ^ (j % 8) % 2) 1 || nat_eq (1 * 2 ^ (i % 8) % 256 / 2 ^ (j % 8) % 2) 1) (sym e)
          ∙ ap (λ (x : Bool). is_set bits j || x) (shifted_bit (j % 8) (i % 8) (omega arith) (omega arith) ∙ same_place i j e)
      | inr ne ↦
          let apart : j ≡ i → ⊥ = λ h. ne (ap (λ (x : ℕ). x / 8) h) in
          other_byte bits i j (bit_or (get_or bits (i / 8) 0) (1 * 2 ^ (i % 8) % 256)) ne
          ∙ sym (ap (λ (x : Bool). is_set bits j || x) (ne_eqb j i apart) ∙ or-false (is_set bits j))
    ]

pub clear_bit_is : (bits : List ℕ) (i j : ℕ) → i / 8 < length bits
    → is_set (slice_set bits (i / 8) (bit_and (get_or bits (i / 8) 0) (255 - 1 * 2 ^ (i % 8) % 256))) j ≡ (is_set bits j && not (nat_eq j i))
clear_bit_is bits i j lt =
    elim (cases_eq (j / 8) (i / 8)) [
      | inl e ↦
          this_byte bits i j (bit_and (get_or bits (i / 8) 0) (255 - 1 * 2 ^ (i % 8) % 256)) lt e
          ∙ and_bit (get_or bits (i / 8) 0) (255 - 1 * 2 ^ (i % 8) % 256) (j % 8)
          ∙ ap (λ (k : ℕ). nat_eq (get_or bits k 0 / 2 ^ (j % 8) % 2) 1 && nat_eq ((255 - 1 * 2 ^ (i % 8) % 256) / 2 ^ (j % 8) % 2) 1) (sym e)
          ∙ ap (λ (x : Bool). is_set bits j && x) (masked_bit (j % 8) (i % 8) (omega arith) (omega arith) ∙ ap not (same_place i j e))
      | inr ne ↦
          let apart : j ≡ i → ⊥ = λ h. ne (ap (λ (x : ℕ). x / 8) h) in
          other_byte bits i j (bit_and (get_or bits (i / 8) 0) (255 - 1 * 2 ^ (i % 8) % 256)) ne
          ∙ sym (ap (λ (x : Bool). is_set bits j && not x) (ne_eqb j i apart) ∙ and-true (is_set bits j))
    ]
