-- No size of 32 bits is of a level above the seventh.
use Rattle.std.proofs.Common.{◌≡◌, ℕ, zero, suc, ◌^◌, ◌<◌, ◌≤◌, Bool, cond, false, List, [], ◌∷◌, get_or, refl, arith}
use Rattle.std.specs.List.{zip}
use Rattle.std.proofs.lemmas.Bool.Decides.{nat_tests}
use Rattle.std.proofs.lemmas.List.Sums.{sum_by-cons}
use Rattle.std.proofs.Math.Nat.{pow-le-pow_right}
use Rattle.merge_policy.specs.Choice.{least_size, is_of_level, free_count}
use Rattle.merge_policy.proofs.Front.{is_free}

least_size-high : (l : ℕ) → 8 ≤ l → 2 ^ 32 ≤ least_size l
least_size-high zero h = absurd (omega arith)
least_size-high (suc l) h = omega (arith, pow-le-pow_right {n = 10} (omega arith) {i = 7} {j = l} (omega arith))

too_high : (l size : ℕ) → 8 ≤ l → size < 2 ^ 32 → is_of_level l size ≡ false
too_high l size h small =
    let least = least_size-high l h in
    let under : size < least_size l = omega arith in
    grind (arith, nat_tests)

pub free_count-high : (l : ℕ) (sizes : List ℕ) (pinned : List Bool) → 8 ≤ l → ((i : ℕ) → get_or sizes i 0 < 2 ^ 32) → free_count l sizes pinned ≡ 0
unfolding free_count
free_count-high l [] pinned h small = refl
free_count-high l (s ∷ ss) [] h small = refl
free_count-high l (s ∷ ss) (p ∷ ps) h small =
    rw (sum_by-cons (λ x. cond (is_free l x) 1 0) (s, p) (zip ss ps), too_high l s h (small 0)) (omega (arith, free_count-high l ss ps h (λ i. small (suc i))))
