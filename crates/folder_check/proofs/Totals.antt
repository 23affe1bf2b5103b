-- Sums over the numbers below a limit, by which lists of different numbers are counted.
use Rattle.std.proofs.Common.{◌≡◌, ℕ, zero, suc, ◌+◌, ◌<◌, Bool, true, false, ◌||◌, eqb, List, [], ◌∷◌, length, refl, ap, ◌∙◌, arith}
use Rattle.std.specs.List.{All, AllPairs}
use Rattle.std.proofs.lemmas.Bool.{eqb-true, false_from_ne_true}
use Rattle.std.proofs.lemmas.List.Elements.{All-head, All-tail}
use Rattle.documents.specs.Entries.{is_among}
use Rattle.documents.proofs.Kept.{among_to}
use Rattle.documents.proofs.Lists.{pairs_head, pairs_tail}
use Rattle.folder_check.proofs.Entries.{one_if}

-- of f over the numbers below n
abbrev pub total : (ℕ → ℕ) → ℕ → ℕ
total f zero = 0
total f (suc n) = total f n + f n

pub total_alike : (f g : ℕ → ℕ) (n : ℕ) → ((m : ℕ) → m < n → f m ≡ g m) → total f n ≡ total g n
total_alike f g zero same = refl
total_alike f g (suc n) same = omega (arith, total_alike f g n (λ m lt. same m (omega (arith, lt))), same n (omega arith))

pub total_none : (f : ℕ → ℕ) (n : ℕ) → ((m : ℕ) → m < n → f m ≡ 0) → total f n ≡ 0
total_none f zero none = refl
total_none f (suc n) none = omega (arith, total_none f n (λ m lt. none m (omega (arith, lt))), none n (omega arith))

pub total_sum : (f g : ℕ → ℕ) (n : ℕ) → total (λ m. f m + g m) n ≡ total f n + total g n
total_sum f g zero = refl
total_sum f g (suc n) = omega (arith, total_sum f g n)

pub other_number : (x n : ℕ) → (x ≡ n → ⊥) → eqb x n ≡ false
other_number x n ne = false_from_ne_true (eqb x n) (λ e. ne (eqb-true x n e))

-- one number is counted once
pub total_one : (x n : ℕ) → x < n → total (λ m. one_if (eqb x m)) n ≡ 1
total_one x zero lt = absurd (omega (arith, lt))
total_one x (suc n) lt = by (total_one x n) (eqb x n) refl
  where
    by : (x < n → total (λ m. one_if (eqb x m)) n ≡ 1) → (b : Bool) → eqb x n ≡ b → total (λ m. one_if (eqb x m)) (suc n) ≡ 1
    by rest true here =
        let is = eqb-true x n here in
        let last = ap one_if here in
        let before = total_none (λ m. one_if (eqb x m)) n (λ m less. ap one_if (other_number x m (λ e. omega (arith, e, is, less)))) in
        omega (arith, last, before)
    by rest false not_here =
        let last = ap one_if not_here in
        let less : x < n = grind (arith, lt, not_here) in
        omega (arith, last, rest less)

-- different numbers below n are as many as there are numbers below n among them
pub total_among : (xs : List ℕ) (n : ℕ) → AllPairs (λ (a b : ℕ). a < b) xs → All (λ x. x < n) xs → total (λ m. one_if (is_among xs m)) n ≡ length xs
total_among [] n up low = total_none (λ m. 0) n (λ m lt. refl)
total_among (x ∷ xs) n up low =
    total_alike (λ m. one_if (eqb x m || is_among xs m)) (λ m. one_if (eqb x m) + one_if (is_among xs m)) n
    (λ m lt. apart m (eqb x m) refl (is_among xs m) refl)
    ∙ total_sum (λ m. one_if (eqb x m)) (λ m. one_if (is_among xs m)) n
    ∙ both (total_among xs n (pairs_tail (λ (a b : ℕ). a < b) x xs up) (All-tail (λ y. y < n) x xs low))
  where
    both : total (λ m. one_if (is_among xs m)) n ≡ length xs → total (λ m. one_if (eqb x m)) n + total (λ m. one_if (is_among xs m)) n ≡ length (x ∷ xs)
    both rest =
        let one = total_one x n (All-head (λ y. y < n) x xs low) in
        omega (arith, one, rest)

    apart : (m : ℕ) → (b : Bool) → eqb x m ≡ b → (c : Bool) → is_among xs m ≡ c → one_if (b || c) ≡ one_if b + one_if c
    apart m true is true there = absurd (omega (arith, eqb-true x m is, pairs_head (λ (a b : ℕ). a < b) x xs up m (among_to xs m there)))
    apart m true is false none = refl
    apart m false is true there = refl
    apart m false is false none = refl
