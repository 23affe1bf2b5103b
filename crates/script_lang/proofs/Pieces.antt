-- Where a text is cut.
use Rattle.std.proofs.Common.{◌≡◌, ℕ, ◌<◌, ◌≤◌, Bool, true, false, List, [], ◌∷◌, length, arith, refl, ◌∙◌}
use Rattle.std.specs.Prelude.{unwrap_or, position, not}
use Rattle.std.specs.List.{position_or_len, prefix_len, slice_split}
use Rattle.std.proofs.lemmas.List.Sums.{prefix_len-le-length}
use Rattle.std.proofs.lemmas.List.Splits.{slice_split-cons_no}
use Rattle.std.proofs.lemmas.Grind.{common_steps}

-- the first position, or the length where there is none
pub position_or_length : (p : ℕ → Bool) (xs : List ℕ) → unwrap_or (position p xs) (length xs) ≡ position_or_len p xs
position_or_length p xs =
    let bound : position_or_len p xs ≤ length xs = prefix_len-le-length _ xs in
    grind (arith, common_steps, bound)

not_not : (b : Bool) → not (not b) ≡ b
not_not true = refl
not_not false = refl

passing_first : (p : ℕ → Bool) (xs : List ℕ) → position_or_len (λ b. not (p b)) xs ≡ prefix_len p xs
passing_first p [] = refl
passing_first p (x ∷ xs) = rw (not_not (p x), passing_first p xs) refl

pub first_failing : (p : ℕ → Bool) (xs : List ℕ) → unwrap_or (position (λ b. not (p b)) xs) (length xs) ≡ prefix_len p xs
first_failing p xs = position_or_length (λ b. not (p b)) xs ∙ passing_first p xs

pub empty : (xs : List ℕ) → length xs < 1 → xs ≡ []
empty [] e = refl
empty (x ∷ xs) e = absurd (omega arith)

passing_at_front : (p : ℕ → Bool) (x : ℕ) (xs : List ℕ) → p x ≡ true → position_or_len p (x ∷ xs) ≡ length (x ∷ xs) → ⊥
passing_at_front p x xs t e = let none = rw t at e in omega (arith, none)

failing_at_front : (p : ℕ → Bool) (x : ℕ) (xs : List ℕ) → p x ≡ false → position_or_len p (x ∷ xs) ≡ length (x ∷ xs)
    → position_or_len p xs ≡ length xs
failing_at_front p x xs t e = let more = rw t at e in omega (arith, more)

-- where no element passes, a list is one piece
pub one_piece : (p : ℕ → Bool) (xs : List ℕ) → position_or_len p xs ≡ length xs → slice_split p xs ≡ xs ∷ []
one_piece p [] e = refl
one_piece p (x ∷ xs) e =
    elim (p x) as (λ t. p x ≡ t → slice_split p (x ∷ xs) ≡ (x ∷ xs) ∷ []) [
      | true ↦ λ t. absurd (passing_at_front p x xs t e)
      | false ↦ λ t. rw (slice_split-cons_no p x xs t, one_piece p xs (failing_at_front p x xs t e)) refl
    ] refl
