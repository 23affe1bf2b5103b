-- Which numbers are marked after one is, or those of a word.
use Rattle.std.proofs.Common.{◌≡◌, ◌<◌, ◌+◌, ◌*◌, ◌/◌, ◌%◌, ◌^◌, ℕ, Bool, ◌&&◌, ◌||◌, nat_eq, List, length, get_or}
use Rattle.std.proofs.Common.{bit_and, bit_or, slice_set, sym, ap, ◌∙◌, arith, inl, inr, get_or-set_same, get_or-set_other}
use Rattle.std.specs.Int.{w64}
use Rattle.std.proofs.Math.Bool.{or-false}
use Rattle.std.proofs.lemmas.Bool.{cases_eq, eq-eqb, ne_eqb, or_right}
use Rattle.std.proofs.lemmas.Nat.Bits.{bit_at_set_same, bit_at_set_other}
use Rattle.live_bits.specs.LiveBody.{has_bit}
use Rattle.live_bits.proofs.SingleBits.{and_bit, or_bit}
use Rattle.document_checks.specs.Marks.{is_marked}

-- a write of a word
other_word : (words : List ℕ) (at n v : ℕ) → (n / 64 ≡ at → ⊥) → is_marked (slice_set words at v) n ≡ is_marked words n
other_word words at n v ne = ap (λ (w : ℕ). has_bit w (n % 64)) (get_or-set_other words at (n / 64) v 0 ne)

this_word : (words : List ℕ) (at n v : ℕ) → at < length words → n / 64 ≡ at → is_marked (slice_set words at v) n ≡ has_bit v (n % 64)
this_word words at n v lt e = ap (λ (w : ℕ). has_bit w (n % 64)) (ap (λ (k : ℕ). get_or (slice_set words at v) k 0) e ∙ get_or-set_same words at v 0 lt)

-- ---- one number

bit_set : (word j k : ℕ) → j < 64 → k < 64 → has_bit (bit_or word (1 * 2 ^ k % 2 ^ 64)) j ≡ (has_bit word j || nat_eq j k)
bit_set word j k hj hk =
    elim (cases_eq j k) [
      | inl same ↦
          ap (λ (i : ℕ). has_bit (bit_or word (1 * 2 ^ k % 2 ^ 64)) i) same
          ∙ ap (λ (x : ℕ). nat_eq x 1) (bit_at_set_same w64 word k hk)
          ∙ sym (or_right (has_bit word j) (nat_eq j k) (eq-eqb j k same))
      | inr apart ↦
          ap (λ (x : ℕ). nat_eq x 1) (bit_at_set_other w64 word k hk j apart)
          ∙ sym (ap (λ (b : Bool). has_bit word j || b) (ne_eqb j k apart) ∙ or-false (has_bit word j))
    ]

-- numbers of one word are one number where they are one bit of it
same_bit : (m n : ℕ) → n / 64 ≡ m / 64 → nat_eq (n % 64) (m % 64) ≡ nat_eq n m
same_bit m n e =
    elim (cases_eq n m) [
      | inl eq ↦ eq-eqb (n % 64) (m % 64) (ap (λ (x : ℕ). x % 64) eq) ∙ sym (eq-eqb n m eq)
      | inr ne ↦ ne_eqb (n % 64) (m % 64) (λ h. ne (omega arith)) ∙ sym (ne_eqb n m ne)
    ]

pub mark_is : (words : List ℕ) (m n : ℕ) → m / 64 < length words
    → is_marked (slice_set words (m / 64) (bit_or (get_or words (m / 64) 0) (1 * 2 ^ (m % 64) % 2 ^ 64))) n ≡ (is_marked words n || nat_eq n m)
mark_is words m n lt =
    let new = bit_or (get_or words (m / 64) 0) (1 * 2 ^ (m % 64) % 2 ^ 64) in
    elim (cases_eq (n / 64) (m / 64)) [
      | inl e ↦
          this_word words (m / 64) n new lt e
          ∙ bit_set (get_or words (m / 64) 0) (n % 64) (m % 64) (omega arith) (omega arith)
          ∙ ap (λ (k : ℕ). has_bit (get_or words k 0) (n % 64) || nat_eq (n % 64) (m % 64)) (sym e)
          ∙ ap (λ (b : Bool). is_marked words n || b) (same_bit m n e)
      | inr ne ↦
          let apart : n ≡ m → ⊥ = λ h. ne (ap (λ (x : ℕ). x / 64) h) in
          other_word words (m / 64) n new ne ∙ sym (ap (λ (b : Bool). is_marked words n || b) (ne_eqb n m apart) ∙ or-false (is_marked words n))
    ]

-- ---- the numbers of a word

pub marks_met : (words : List ℕ) (at word k : ℕ) → k < 64 → has_bit (bit_and (get_or words at 0) word) k ≡ (is_marked words (64 * at + k) && has_bit word k)
marks_met words at word k lt =
    let word_of : at ≡ (64 * at + k) / 64 = omega arith in
    let bit_of : k ≡ (64 * at + k) % 64 = omega arith in
    and_bit (get_or words at 0) word k ∙ (λ i. has_bit (get_or words (word_of i) 0) (bit_of i) && has_bit word k)

pub marks_joined : (words : List ℕ) (at word n : ℕ) → at < length words
    → is_marked (slice_set words at (bit_or (get_or words at 0) word)) n ≡ (is_marked words n || (nat_eq (n / 64) at && has_bit word (n % 64)))
marks_joined words at word n lt =
    let new = bit_or (get_or words at 0) word in
    elim (cases_eq (n / 64) at) [
      | inl e ↦
          this_word words at n new lt e
          ∙ or_bit (get_or words at 0) word (n % 64)
          ∙ ap (λ (k : ℕ). has_bit (get_or words k 0) (n % 64) || has_bit word (n % 64)) (sym e)
          ∙ sym (ap (λ (b : Bool). is_marked words n || (b && has_bit word (n % 64))) (eq-eqb (n / 64) at e))
      | inr ne ↦
          other_word words at n new ne
          ∙ sym (ap (λ (b : Bool). is_marked words n || (b && has_bit word (n % 64))) (ne_eqb (n / 64) at ne) ∙ or-false (is_marked words n))
    ]
