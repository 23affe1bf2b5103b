-- Bytes that have the same bits are the same bytes; bits past a span are zero where the last byte has none there.
use Rattle.std.proofs.Common.{◌≡◌, ◌≢◌, ◌<◌, ◌≤◌, ◌+◌, ◌-◌, ◌/◌, ◌%◌, ◌^◌, ℕ, zero, suc, false, nat_eq, List}
use Rattle.std.proofs.Common.{[], ◌∷◌, length, get_or, refl, sym, ap, subst, ◌∙◌, arith, inl, inr, All}
use Rattle.std.proofs.Math.Nat.{pow-suc, zero-div}
use Rattle.std.proofs.lemmas.Bool.{cases_lt}
use Rattle.std.proofs.lemmas.List.{get_or_past}
use Rattle.std.proofs.lemmas.List.Elements.{All-head, All-tail}
use Rattle.std.proofs.lemmas.Nat.{shr-shr, shr_below, pow_pos}
use Rattle.live_bits.specs.LiveBody.{is_set}
use Rattle.live_bits.proofs.Tally.{is_set-past}

-- ---- numbers

digit_same : (u v : ℕ) → u < 2 → v < 2 → nat_eq u 1 ≡ nat_eq v 1 → u ≡ v
digit_same zero zero p q e = refl
digit_same (suc zero) (suc zero) p q e = refl
digit_same zero (suc zero) p q e = absurd cc
digit_same (suc zero) zero p q e = absurd cc
digit_same zero (suc (suc v)) p q e = absurd (omega arith)
digit_same (suc zero) (suc (suc v)) p q e = absurd (omega arith)
digit_same (suc (suc u)) v p q e = absurd (omega arith)

same_number : (k a b : ℕ) → a < 2 ^ k → b < 2 ^ k → ((j : ℕ) → j < k → nat_eq (a / 2 ^ j % 2) 1 ≡ nat_eq (b / 2 ^ j % 2) 1) → a ≡ b
same_number zero a b p q same = omega arith
same_number (suc k) a b p q same =
    let low : a / 1 % 2 ≡ b / 1 % 2 = digit_same (a / 1 % 2) (b / 1 % 2) (omega arith) (omega arith) (same 0 (omega arith)) in
    let high = same_number k (a / 2) (b / 2) (omega (arith, pow-suc 2 k)) (omega (arith, pow-suc 2 k))
    (λ j lt. ap (λ (x : ℕ). nat_eq (x % 2) 1) (shr-shr a 1 j) ∙ same (1 + j) (omega arith) ∙ sym (ap (λ (x : ℕ). nat_eq (x % 2) 1) (shr-shr b 1 j))) in
    omega (arith, low, high)

-- ---- bytes

first_byte : (b c : ℕ) (bs cs : List ℕ) → b < 256 → c < 256 → ((i : ℕ) → is_set (b ∷ bs) i ≡ is_set (c ∷ cs) i) → b ≡ c
first_byte b c bs cs hb hc same =
    same_number 8 b c hb hc
    (λ j lt.
    let byte : j / 8 ≡ 0 = omega arith in
    let bit : j % 8 ≡ j = omega arith in
    let at : (x : ℕ) (xs : List ℕ) → is_set (x ∷ xs) j ≡ nat_eq (x / 2 ^ j % 2) 1 =
    λ x xs. ap (λ (k : ℕ). nat_eq (get_or (x ∷ xs) k 0 / 2 ^ (j % 8) % 2) 1) byte ∙ ap (λ (k : ℕ). nat_eq (x / 2 ^ k % 2) 1) bit in
    sym (at b bs) ∙ same j ∙ at c cs)

pub same_bytes : (xs ys : List ℕ) → length xs ≡ length ys → All (λ b. b < 256) xs → All (λ b. b < 256) ys → ((i : ℕ) → is_set xs i ≡ is_set ys i) → xs ≡ ys
same_bytes [] [] len hx hy same = refl
same_bytes [] (y ∷ ys) len hx hy same = absurd (omega arith)
same_bytes (x ∷ xs) [] len hx hy same = absurd (omega arith)
same_bytes (x ∷ xs) (y ∷ ys) len hx hy same =
    let head = first_byte x y xs ys (All-head (λ (b : ℕ). b < 256) x xs hx) (All-head (λ (b : ℕ). b < 256) y ys hy) same in
    let tail = same_bytes xs ys (omega arith) (All-tail (λ (b : ℕ). b < 256) x xs hx) (All-tail (λ (b : ℕ). b < 256) y ys hy)
    (λ i. sym (is_set-past x i xs) ∙ same (8 + i) ∙ is_set-past y i ys) in
    ap (λ (h : ℕ). h ∷ xs) head ∙ ap (λ (t : List ℕ). y ∷ t) tail

-- ---- past the span

pub past_zero : (bits : List ℕ) (span : ℕ) → length bits ≡ (span + 7) / 8 → span % 8 ≢ 0 → get_or bits (span / 8) 0 / 2 ^ (span % 8) ≡ 0 → (i : ℕ) → span ≤ i
    → is_set bits i ≡ false
past_zero bits span len part zeros i past =
    elim (cases_lt (i / 8) (length bits)) [
      | inl lt ↦
          let byte : i / 8 ≡ span / 8 = omega arith in
          let more : i % 8 ≡ span % 8 + (i % 8 - span % 8) = omega arith in
          ap (λ (k : ℕ). nat_eq (get_or bits k 0 / 2 ^ (i % 8) % 2) 1) byte
          ∙ ap (λ (k : ℕ). nat_eq (get_or bits (span / 8) 0 / 2 ^ k % 2) 1) more
          ∙ ap (λ (x : ℕ). nat_eq (x % 2) 1)
          (sym (shr-shr (get_or bits (span / 8) 0) (span % 8) (i % 8 - span % 8)) ∙ ap (λ (x : ℕ). x / 2 ^ (i % 8 - span % 8)) zeros
          ∙ zero-div (2 ^ (i % 8 - span % 8)))
      | inr le ↦
          ap (λ (b : ℕ). nat_eq (b / 2 ^ (i % 8) % 2) 1) (get_or_past bits (i / 8) 0 le) ∙ ap (λ (x : ℕ). nat_eq (x % 2) 1) (zero-div (2 ^ (i % 8)))
    ]

pub zero_past : (bits : List ℕ) (span : ℕ) → ((i : ℕ) → get_or bits i 0 < 256) → ((i : ℕ) → span ≤ i → is_set bits i ≡ false)
    → get_or bits (span / 8) 0 / 2 ^ (span % 8) ≡ 0
zero_past bits span small past =
    let byte = get_or bits (span / 8) 0 in
    let whole : 8 - span % 8 + span % 8 ≡ 8 = omega arith in
    let below : byte < 2 ^ (8 - span % 8 + span % 8) = subst (λ (k : ℕ). byte < 2 ^ k) (sym whole) (small (span / 8)) in
    same_number (8 - span % 8) (byte / 2 ^ (span % 8)) 0 (shr_below byte (8 - span % 8) (span % 8) below) (pow_pos (8 - span % 8))
    (λ j lt.
    let same_byte : (span + j) / 8 ≡ span / 8 = omega arith in
    let bit : (span + j) % 8 ≡ span % 8 + j = omega arith in
    ap (λ (x : ℕ). nat_eq (x % 2) 1) (shr-shr byte (span % 8) j)
    ∙ sym (ap (λ (k : ℕ). nat_eq (get_or bits k 0 / 2 ^ ((span + j) % 8) % 2) 1) same_byte ∙ ap (λ (k : ℕ). nat_eq (byte / 2 ^ k % 2) 1) bit)
    ∙ past (span + j) (omega arith)
    ∙ sym (ap (λ (x : ℕ). nat_eq (x % 2) 1) (zero-div (2 ^ j))))
