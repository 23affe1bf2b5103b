-- A run of equal numbers in a list.
use Rattle.std.specs.Prelude.{◌≡◌, ◌≤◌, ℕ, true, false, nat_eq, List, length}
use Rattle.std.specs.List.{AllWithin}

-- the run from i to j has all elements of this number, and no others
pub record IsRunOf {X : Type 0} (n : X → ℕ) (number : ℕ) (xs : List X) (i j : ℕ) : Type 0 where
  pub before : AllWithin (λ x. nat_eq (n x) number ≡ false) xs 0 i
  pub inside : AllWithin (λ x. nat_eq (n x) number ≡ true) xs i j
  pub after : AllWithin (λ x. nat_eq (n x) number ≡ false) xs j (length xs)
  pub ordered : i ≤ j
