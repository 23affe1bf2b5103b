-- What keys share at the front.
use Rattle.std.proofs.Common.{◌≡◌, ℕ, ◌+◌, ◌≤◌, List, [], ◌∷◌, ◌++◌, length, take, drop, refl, sym}
use Rattle.std.proofs.Common.{ap, subst, ◌∙◌, arith, eqb, inl, inr, add-one, take-append-drop}
use Rattle.std.proofs.lemmas.Bool.{cases_eq, cond-true, cond-false}
use Rattle.std.proofs.Common.{eq-eqb, ne_eqb}
use Rattle.inner_pack.specs.Bodies.{shared_front}

shared_same : (x y : ℕ) (xs ys : List ℕ) → x ≡ y → shared_front (x ∷ xs) (y ∷ ys) ≡ shared_front xs ys + 1
shared_same x y xs ys e = cond-true (eqb x y) (shared_front xs ys + 1) 0 (eq-eqb x y e)

shared_other : (x y : ℕ) (xs ys : List ℕ) → (x ≡ y → ⊥) → shared_front (x ∷ xs) (y ∷ ys) ≡ 0
shared_other x y xs ys e = cond-false (eqb x y) (shared_front xs ys + 1) 0 (ne_eqb x y e)

pub shared-le : (a b : List ℕ) → shared_front a b ≤ length a
shared-le [] b = omega arith
shared-le (x ∷ xs) [] = omega arith
shared-le (x ∷ xs) (y ∷ ys) = elim (cases_eq x y) [
  | inl e ↦ omega (arith, shared_same x y xs ys e, shared-le xs ys)
  | inr ne ↦ omega (arith, shared_other x y xs ys ne)
]

-- what they share is the front of both
pub shared_take : (a b : List ℕ) → take (shared_front a b) a ≡ take (shared_front a b) b
shared_take [] [] = refl
shared_take [] (y ∷ ys) = refl
shared_take (x ∷ xs) [] = refl
shared_take (x ∷ xs) (y ∷ ys) = elim (cases_eq x y) [
  | inl e ↦ subst (λ (n : ℕ). take n (x ∷ xs) ≡ take n (y ∷ ys)) (sym (shared_same x y xs ys e ∙ add-one (shared_front xs ys))) (λ i. e i ∷ shared_take xs ys i)
  | inr ne ↦ subst (λ (n : ℕ). take n (x ∷ xs) ≡ take n (y ∷ ys)) (sym (shared_other x y xs ys ne)) refl
]

-- the key is what it shares with the reference and the rest
pub key_again : (k reference back joined : List ℕ) (p : ℕ) → shared_front k reference ≡ p → back ≡ drop p k → joined ≡ take p reference ++ back → joined ≡ k
key_again k reference back joined p sh b j =
    j
    ∙ (λ i. take (sym sh i) reference ++ b i)
    ∙ ap (λ (t : List ℕ). t ++ drop p k) (sym (shared_take k reference) ∙ ap (λ n. take n k) sh)
    ∙ take-append-drop p k
