-- Where no level has ten free sizes, few sizes are left: each size of 32 bits is of one of the first eight levels, or pinned.
use Rattle.std.proofs.Common.{◌≡◌, ℕ, zero, suc, ◌+◌, ◌*◌, ◌^◌, ◌<◌, ◌≤◌, Bool, true, false, cond}
use Rattle.std.proofs.Common.{◌&&◌, List, [], ◌∷◌, length, All, ⊎_elim, refl, subst, ap, arith}
use Rattle.std.specs.Prelude.{count_by}
use Rattle.std.specs.List.{zip}
use Rattle.std.proofs.lemmas.Bool.{and_from, cases_lt, le-leb, lt-ltb}
use Rattle.std.proofs.lemmas.List.Elements.{All-head, All-tail, All-weaker}
use Rattle.std.proofs.lemmas.List.Sums.{sum_by-cons}
use Rattle.merge_policy.specs.Choice.{least_size, is_of_level, free_count}
use Rattle.merge_policy.proofs.Front.{is_free}

-- how many sizes of the levels below n are free
free_below : ℕ → List ℕ → List Bool → ℕ
free_below zero sizes pinned = 0
free_below (suc l) sizes pinned = free_below l sizes pinned + free_count l sizes pinned

-- in how many levels below n a size is free
free_in : ℕ → ℕ → Bool → ℕ
free_in zero size pin = 0
free_in (suc l) size pin = free_in l size pin + cond (is_free l (size, pin)) 1 0

free_below-cons : (n size : ℕ) (pin : Bool) (sizes : List ℕ) (pinned : List Bool)
    → free_below n (size ∷ sizes) (pin ∷ pinned) ≡ free_in n size pin + free_below n sizes pinned
unfolding free_below free_in free_count
free_below-cons zero size pin sizes pinned = refl
free_below-cons (suc l) size pin sizes pinned =
    omega (arith, free_below-cons l size pin sizes pinned, sum_by-cons (λ s. cond (is_free l s) 1 0) (size, pin) (zip sizes pinned))

free_below-le : (n : ℕ) (sizes : List ℕ) (pinned : List Bool) → ((l : ℕ) → free_count l sizes pinned < 10) → free_below n sizes pinned ≤ n * 9
unfolding free_below
free_below-le zero sizes pinned few = omega arith
free_below-le (suc l) sizes pinned few = omega (arith, few l, free_below-le l sizes pinned few)

-- a size below the least of a level is of a level below that one
has_level : (n size : ℕ) → size < least_size n → (l : ℕ) × (l < n) × (is_of_level l size ≡ true)
has_level zero size h = absurd (omega (arith, h))
has_level (suc n) size h =
    ⊎_elim
    (λ lt. let found = has_level n size lt in (found.0, omega (arith, found.1), found.2))
    (λ ge. (n, omega arith, and_from _ _ (le-leb (least_size n) size ge) (lt-ltb size (least_size (suc n)) h)))
    (cases_lt size (least_size n))

free_in-some : (n l size : ℕ) → l < n → is_of_level l size ≡ true → 1 ≤ free_in n size false
unfolding free_in
free_in-some zero l size h is = absurd (omega (arith, h))
free_in-some (suc n) l size h is =
    ⊎_elim
    (λ lt. omega (arith, free_in-some n l size lt is))
    (λ ge.
    let same : l ≡ n = omega (arith, h, ge) in
    let one : ◌≡◌ {A = ℕ} (cond (is_of_level n size && true) 1 0) 1 = ap (λ b. cond (b && true) 1 0) (subst (λ (k : ℕ). is_of_level k size ≡ true) same is) in
    omega (arith, one))
    (cases_lt l n)

-- each size is free in a level below n, or pinned
free_or_pinned : (n : ℕ) (sizes : List ℕ) (pinned : List Bool) → length sizes ≡ length pinned → All (λ size. size < least_size n) sizes
    → length sizes ≤ free_below n sizes pinned + count_by (λ pin. pin) pinned
free_or_pinned n [] pinned e small = omega arith
free_or_pinned n (size ∷ sizes) [] e small = absurd (omega (arith, e))
free_or_pinned n (size ∷ sizes) (pin ∷ pinned) e small =
    omega (
      arith,
      one pin,
      free_or_pinned n sizes pinned (omega (arith, e)) (All-tail (λ s. s < least_size n) size sizes small),
      free_below-cons n size pin sizes pinned,
      sum_by-cons (λ p. cond p 1 0) pin pinned,
    )
  where
    one : (p : Bool) → 1 ≤ free_in n size p + cond p 1 0
    one true = omega arith
    one false =
        let found = has_level n size (All-head (λ s. s < least_size n) size sizes small) in
        omega (arith, free_in-some n found.0 size found.1 found.2)

pub few_left : (sizes : List ℕ) (pinned : List Bool) → length sizes ≡ length pinned → All (λ size. size < 2 ^ 32) sizes
    → ((level : ℕ) → free_count level sizes pinned < 10) → length sizes ≤ 72 + count_by (λ pin. pin) pinned
few_left sizes pinned e small few =
    let each = free_or_pinned 8 sizes pinned e (All-weaker (λ s. s < 2 ^ 32) (λ s. s < least_size 8) (λ s h. omega (arith, h)) sizes small) in
    omega (arith, each, free_below-le 8 sizes pinned few)
