-- The vint of a number as a function is the vint as a relation.
use Rattle.std.proofs.Common.{◌≡◌, ◌<◌, ◌≤◌, ◌+◌, ◌^◌, ◌/◌, ◌%◌, ◌↔◌, ℕ, zero, suc, List, []}
use Rattle.std.proofs.Common.{◌∷◌, ◌++◌, length, refl, sym, ap, subst, ◌∙◌, arith, ltb, inl, inr}
use Rattle.std.proofs.Math.Nat.{pow-suc}
use Rattle.std.proofs.lemmas.Bool.{cases_lt, lt-ltb, le-ltb, cond-true, cond-false}
use Rattle.std.proofs.lemmas.Nat.{div_below}
use Rattle.byte_cursor.specs.Vint.{IsVint, AppendsVint, BeginsWithVint, vint_groups, vint}
use Rattle.byte_cursor.proofs.Vints.{vint_cons, vint_one, vint_unique, vint_lengths}

one_group : (n : ℕ) → n < 128 → IsVint (n ∷ []) n
unfolding IsVint
one_group n lt = (lt, refl)

groups_are : (k n : ℕ) → n < 128 ^ suc k → IsVint (vint_groups k n) n
groups_are zero n h = one_group n (omega arith)
groups_are (suc k) n h =
    elim (cases_lt n 128) [
      | inl lt ↦ subst (λ (a : List ℕ). IsVint a n) (sym (cond-true (ltb n 128) (n ∷ []) _ (lt-ltb n 128 lt))) (one_group n lt)
      | inr le ↦
          let high = groups_are k (n / 128) (div_below n 128 (128 ^ suc k) (omega arith) (omega (arith, pow-suc 128 (suc k)))) in
          subst (λ (a : List ℕ). IsVint a n) (sym (cond-false (ltb n 128) (n ∷ []) _ (le-ltb n 128 le)))
          (vint_cons (vint_groups k (n / 128)) (128 + n % 128) n (n / 128) high (omega arith) (omega arith) (omega arith) (omega arith))
    ]

pub IsVint-vint : (n : ℕ) → n < 2 ^ 32 → IsVint (vint n) n
unfolding vint
IsVint-vint n h = groups_are 4 n (omega arith)

-- and it is the only one
pub spelled : (a : List ℕ) (n : ℕ) → n < 2 ^ 32 → IsVint a n ↔ (a ≡ vint n)
spelled a n lt =
    let own = IsVint-vint n lt in
    (λ v. vint_one a (vint n) n v own, λ e. subst (λ (b : List ℕ). IsVint b n) (sym e) own)

-- what put_vint appends is the one spelling of the number
pub appended : (old new : List ℕ) (n : ℕ) → n < 2 ^ 32 → AppendsVint old new n → new ≡ old ++ vint n
appended old new n lt h = h.joined ∙ ap (λ (t : List ℕ). old ++ t) (vint_one h.spelling (vint n) n h.is_vint (IsVint-vint n lt))

-- what take_vint takes is the one spelling of the number
pub taken : (bytes rest : List ℕ) (n : ℕ) → n < 2 ^ 32 → BeginsWithVint bytes n rest → bytes ≡ vint n ++ rest
taken bytes rest n lt h = h.parts ∙ ap (λ (t : List ℕ). t ++ rest) (vint_one h.front (vint n) n h.is_vint (IsVint-vint n lt))

pub begins : (bytes rest : List ℕ) (n : ℕ) → n < 2 ^ 32 → bytes ≡ vint n ++ rest → BeginsWithVint bytes n rest
begins bytes rest n lt h = record { front = vint n; is_vint = IsVint-vint n lt; parts = h }

-- no bytes begin with the vints of two numbers
pub vint_front : (m n : ℕ) (x y : List ℕ) → m < 2 ^ 32 → n < 2 ^ 32 → vint m ++ x ≡ vint n ++ y → (m ≡ n) × (x ≡ y)
vint_front m n x y hm hn e =
    let u = vint_unique (vint m) (vint n) x y m n (IsVint-vint m hm) (IsVint-vint n hn) e in
    (u.1, u.2)

pub length-vint : (n : ℕ) → n < 2 ^ 32 → (1 ≤ length (vint n)) × (length (vint n) ≤ 5)
length-vint n lt = vint_lengths (vint n) n lt (IsVint-vint n lt)
