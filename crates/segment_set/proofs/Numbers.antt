-- Live numbers that are all among others, and as many, are the same.
use Rattle.std.proofs.Common.{◌≡◌, ◌⊎◌, ◌≤◌, ◌<◌, ℕ, List, [], ◌∷◌, length, sym, ap, ⊎_elim, arith, ◌∙◌, refl}
use Rattle.std.specs.List.{AllPairs, Contains}
use Rattle.std.proofs.lemmas.List.Kept.{AllPairs-from_increasing}
use Rattle.live_bits.specs.LiveSet.{IsLiveSet, LiveSet, is_live}
use Rattle.documents.proofs.Kept.{among_from, among_to}
use Rattle.documents.proofs.Lists.{cons_cases, cons_head, cons_tail, nil_none, pairs_head, pairs_tail}
use Rattle.segment_set.specs.Kept.{IsSubset}

abbrev Rise : List ℕ → Type 0
Rise ns = AllPairs (λ (a b : ℕ). a < b) ns

abbrev AreAmong : List ℕ → List ℕ → Type 0
AreAmong xs ys = (n : ℕ) → Contains xs n → Contains ys n

-- where the first numbers are the same
rest_among : (x y : ℕ) (xs ys : List ℕ) → Rise (x ∷ xs) → x ≡ y → AreAmong (x ∷ xs) (y ∷ ys) → AreAmong xs ys
rest_among x y xs ys up same among n there = ⊎_elim
    (λ e. let lt = pairs_head (λ (a b : ℕ). a < b) x xs up n there in absurd (omega (arith, lt, same, e)))
    (λ h. h)
    (cons_cases y ys n (among n (cons_tail x xs n there)))

-- where the first is a later one
all_among : (x y : ℕ) (xs ys : List ℕ) → Rise (x ∷ xs) → Rise (y ∷ ys) → Contains ys x → AreAmong (x ∷ xs) (y ∷ ys) → AreAmong (x ∷ xs) ys
all_among x y xs ys up rise later among n there = ⊎_elim (λ e. absurd (above e (cons_cases x xs n there))) (λ h. h) (cons_cases y ys n (among n there))
  where
    below : y < x
    below = pairs_head (λ (a b : ℕ). a < b) y ys rise x later

    above : y ≡ n → (x ≡ n) ⊎ Contains xs n → ⊥
    above e which = ⊎_elim
        (λ s. omega (arith, below, e, s))
        (λ h. let lt = pairs_head (λ (a b : ℕ). a < b) x xs up n h in omega (arith, below, e, lt))
        which

fewer : (ys xs : List ℕ) → Rise xs → Rise ys → AreAmong xs ys → length xs ≤ length ys
fewer ys [] up rise among = omega arith
fewer [] (x ∷ xs) up rise among = nil_none x _ (among x (cons_head x xs))
fewer (y ∷ ys) (x ∷ xs) up rise among = ⊎_elim
    (λ e. omega (
      arith,
      fewer ys xs (pairs_tail (λ (a b : ℕ). a < b) x xs up) (pairs_tail (λ (a b : ℕ). a < b) y ys rise) (rest_among x y xs ys up (sym e) among),
    ))
    (λ later. omega (arith, fewer ys (x ∷ xs) up (pairs_tail (λ (a b : ℕ). a < b) y ys rise) (all_among x y xs ys up rise later among)))
    (cons_cases y ys x (among x (cons_head x xs)))

same_numbers : (ys xs : List ℕ) → Rise xs → Rise ys → AreAmong xs ys → length xs ≡ length ys → xs ≡ ys
same_numbers [] [] up rise among long = refl
same_numbers (y ∷ ys) [] up rise among long = absurd (omega (arith, long))
same_numbers [] (x ∷ xs) up rise among long = absurd (omega (arith, long))
same_numbers (y ∷ ys) (x ∷ xs) up rise among long = ⊎_elim
    (λ e.
    let rest : xs ≡ ys = same_numbers ys xs (pairs_tail (λ (a b : ℕ). a < b) x xs up) (pairs_tail (λ (a b : ℕ). a < b) y ys rise)
    (rest_among x y xs ys up (sym e) among) (omega (arith, long)) in
    ap (λ n. n ∷ xs) (sym e) ∙ ap (λ (ns : List ℕ). y ∷ ns) rest)
    (λ later. absurd (omega (arith, long, fewer ys (x ∷ xs) up (pairs_tail (λ (a b : ℕ). a < b) y ys rise) (all_among x y xs ys up rise later among))))
    (cons_cases y ys x (among x (cons_head x xs)))

pub same_live : (s t : LiveSet) → IsLiveSet s → IsLiveSet t → IsSubset s t → length s.live ≡ length t.live → s ≡ t
unfolding is_live
same_live s t set other within long = λ j. record { base = within.base j; span = within.span j; live = numbers j }
  where
    numbers : s.live ≡ t.live
    numbers = same_numbers t.live s.live (AllPairs-from_increasing s.live set.ascending) (AllPairs-from_increasing t.live other.ascending)
        (λ n there. among_to t.live n (within.live n (among_from s.live n there))) long
