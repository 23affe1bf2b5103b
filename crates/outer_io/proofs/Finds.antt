-- What a search finds in a filtered list.
use Rattle.std.proofs.Common.{◌≡◌, Bool, true, false, cond, List, [], ◌∷◌, None, Some, find, filter, refl}

-- nothing, where the filter keeps none of what is sought
pub find-filter_none : {X : Type 0} (p q : X → Bool) → ((x : X) → p x ≡ true → q x ≡ false) → (xs : List X) → find p (filter q xs) ≡ None
find-filter_none p q apart [] = refl
find-filter_none p q apart (x ∷ xs) =
    elim (q x) as (λ b. q x ≡ b → find p (cond b (x ∷ filter q xs) (filter q xs)) ≡ None) [
      | true ↦ λ kept. elim (p x) as (λ b. p x ≡ b → cond b (Some x) (find p (filter q xs)) ≡ None) [
        | true ↦ λ found. absurd (cc (apart x found))
        | false ↦ λ _. find-filter_none p q apart xs
      ] refl
      | false ↦ λ _. find-filter_none p q apart xs
    ] refl

-- the same as before, where the filter keeps all that is sought
pub find-filter_same : {X : Type 0} (p q : X → Bool) → ((x : X) → p x ≡ true → q x ≡ true) → (xs : List X) → find p (filter q xs) ≡ find p xs
find-filter_same p q kept [] = refl
find-filter_same p q kept (x ∷ xs) =
    elim (q x) as (λ b. q x ≡ b → find p (cond b (x ∷ filter q xs) (filter q xs)) ≡ cond (p x) (Some x) (find p xs)) [
      | true ↦ λ _. rw (find-filter_same p q kept xs)
      | false ↦ λ out. elim (p x) as (λ b. p x ≡ b → find p (filter q xs) ≡ cond b (Some x) (find p xs)) [
        | true ↦ λ found. absurd (cc (kept x found))
        | false ↦ λ _. find-filter_same p q kept xs
      ] refl
    ] refl
