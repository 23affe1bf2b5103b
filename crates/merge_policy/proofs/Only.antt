-- Sizes and pins have one choice at most.
use Rattle.std.proofs.Common.{◌≡◌, ℕ, zero, suc, ◌<◌, Bool, List, [], ◌∷◌, length, All, Contains, ◌⊎◌, inl, inr, refl, sym, ◌∙◌, arith}
use Rattle.std.specs.List.{AllPairs}
use Rattle.std.proofs.lemmas.Bool.{cases_order}
use Rattle.std.proofs.lemmas.List.Kept.{AllPairs-from_increasing}
use Rattle.std.proofs.lemmas.Map.Made.{Contains-tail}
use Rattle.merge_policy.specs.Choice.{IsFree, AreFirstTen, IsChoice}

-- ascending numbers that F holds of, with none left out before any of them
record IsStart (F : ℕ → Type 0) (xs : List ℕ) : Type 0 where
  rising : AllPairs (λ x y. x < y) xs
  each : All F xs
  first : (i j : ℕ) → F i → Contains xs j → i < j → Contains xs i

not_before : (F : ℕ → Type 0) (x y : ℕ) (xs ys : List ℕ) → IsStart F (x ∷ xs) → IsStart F (y ∷ ys) → x < y → ⊥
not_before F x y xs ys a b lt = go (b.first x y (a.each 0 x (omega arith)) (0, omega arith, refl) lt)
  where
    go : Contains (y ∷ ys) x → ⊥
    go (zero, h, e) = omega arith
    go (suc k, h, e) = omega (arith, b.rising 0 (suc k) x (omega arith) h)

-- what is left behind the first of them is such a start of the numbers above it
rest : (F : ℕ → Type 0) (x : ℕ) (xs : List ℕ) → IsStart F (x ∷ xs) → IsStart (λ i. F i × (x < i)) xs
rest F x xs a = record {
  rising = λ i j d lt h. a.rising (suc i) (suc j) d (omega arith) (omega arith);
  each = λ k d h. (a.each (suc k) d (omega arith), a.rising 0 (suc k) d (omega arith) (omega arith));
  first = λ i j f c lt. Contains-tail x xs i (λ e. omega (arith, f.1)) (a.first i j f.0 (suc c.0, omega (arith, c.1), c.2) lt);
}

same_start : (F : ℕ → Type 0) (xs ys : List ℕ) → length xs ≡ length ys → IsStart F xs → IsStart F ys → xs ≡ ys
same_start F [] [] e a b = refl
same_start F [] (y ∷ ys) e a b = absurd (omega arith)
same_start F (x ∷ xs) [] e a b = absurd (omega arith)
same_start F (x ∷ xs) (y ∷ ys) e a b = joined xs ys here (same_start (λ i. F i × (x < i)) xs ys (omega arith) (rest F x xs a) (rw (← here) at (rest F y ys b)))
  where
    here : x ≡ y
    here = heads (cases_order x y)
      where
        heads : (x ≡ y) ⊎ ((x < y) ⊎ (y < x)) → x ≡ y
        heads (inl e) = e
        heads (inr (inl lt)) = absurd (not_before F x y xs ys a b lt)
        heads (inr (inr gt)) = absurd (not_before F y x ys xs b a gt)

    joined : (us vs : List ℕ) → x ≡ y → us ≡ vs → x ∷ us ≡ y ∷ vs
    joined us vs e t = cc

start_of : (l : ℕ) (sizes : List ℕ) (pinned : List Bool) (xs : List ℕ) → AreFirstTen l sizes pinned xs → IsStart (IsFree l sizes pinned) xs
start_of l sizes pinned xs a = record { rising = AllPairs-from_increasing xs a.rising; each = a.free; first = a.first }

same_level : (sizes : List ℕ) (pinned : List Bool) (xs ys : List ℕ) (a : IsChoice sizes pinned xs) (b : IsChoice sizes pinned ys) → a.level ≡ b.level
same_level sizes pinned xs ys a b = go (cases_order a.level b.level)
  where
    go : (a.level ≡ b.level) ⊎ ((a.level < b.level) ⊎ (b.level < a.level)) → a.level ≡ b.level
    go (inl e) = e
    go (inr (inl lt)) = absurd (omega (arith, a.has_ten, b.lowest a.level lt))
    go (inr (inr gt)) = absurd (omega (arith, b.has_ten, a.lowest b.level gt))

pub same_choice : (sizes : List ℕ) (pinned : List Bool) (xs ys : List ℕ) → IsChoice sizes pinned xs → IsChoice sizes pinned ys → xs ≡ ys
same_choice sizes pinned xs ys a b =
    let chosen = a.chosen in
    same_start (IsFree b.level sizes pinned) xs ys (a.chosen.ten ∙ sym b.chosen.ten)
    (start_of b.level sizes pinned xs (rw (same_level sizes pinned xs ys a b) at chosen))
    (start_of b.level sizes pinned ys b.chosen)
