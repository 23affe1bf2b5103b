-- The first positions name the first segments.
use Rattle.std.proofs.Common.{◌≡◌, ◌≤◌, ◌<◌, ◌++◌, ℕ, zero, suc, Bool, true, false, cond, List, [], ◌∷◌, length, take, get_or, ltb, refl, sym}
use Rattle.std.proofs.Common.{ap, subst, ◌∙◌, ⊎_elim, arith}
use Rattle.std.specs.List.{Contains, filter}
use Rattle.std.proofs.lemmas.Bool.{false_from_ne_true, lt-ltb, ltb-false, ltb-true}
use Rattle.std.proofs.lemmas.List.{length-append, take_all}
use Rattle.std.proofs.lemmas.List.Elements.{Contains-append_cases, Contains-append_left, Contains-append_right}
use Rattle.documents.specs.Entries.{is_among}
use Rattle.documents.proofs.Kept.{among_from, among_to}
use Rattle.documents.proofs.Lists.{cons_cases, cons_head, in_filter, in_map, nil_none}
use Rattle.segment_set.specs.Merged.{chosen_ids, each_once}
use Rattle.segment_set.proofs.Places.{once_more}
use Rattle.batch_queries.specs.Merging.{below}

length_below : (n : ℕ) → length (below n) ≡ n
length_below zero = refl
length_below (suc n) = omega (arith, length-append (below n) (n ∷ []), length_below n)

below_less : (n x : ℕ) → Contains (below n) x → x < n
below_less zero x h = nil_none x (x < 0) h
below_less (suc n) x h =
    ⊎_elim (λ front. let less = below_less n x front in omega (arith, less))
    (λ back. ⊎_elim (λ e. omega (arith, e)) (λ none. nil_none x (x < suc n) none) (cons_cases n [] x back))
    (Contains-append_cases (below n) (n ∷ []) x h)

in_below : (n x : ℕ) → x < n → Contains (below n) x
in_below zero x h = absurd (omega (arith, h))
in_below (suc n) x h = by (in_below n x) (ltb x n) refl
  where
    by : (x < n → Contains (below n) x) → (b : Bool) → ltb x n ≡ b → Contains (below n ++ n ∷ []) x
    by before true less = Contains-append_left (below n) (n ∷ []) x (before (ltb-true x n less))
    by before false past =
        let same : n ≡ x = omega (arith, h, ltb-false x n past) in
        Contains-append_right (below n) (n ∷ []) x (subst (λ m. Contains (n ∷ []) m) same (cons_head n []))

once_below : (n : ℕ) → each_once (below n) ≡ below n
once_below zero = refl
once_below (suc n) =
    let new : is_among (below n) n ≡ false = false_from_ne_true (is_among (below n) n)
    (λ there. let less = below_less n n (among_to (below n) n there) in omega (arith, less)) in
    once_more (below n) n
    ∙ ap (λ b. cond b (each_once (below n)) (each_once (below n) ++ n ∷ [])) new
    ∙ ap (λ (ns : List ℕ). ns ++ n ∷ []) (once_below n)

in_take : (n : ℕ) (ids : List ℕ) (id : ℕ) → Contains (take n ids) id → (i : ℕ) × (i < n) × (i < length ids) × (get_or ids i 0 ≡ id)
in_take zero ids id h = nil_none id _ h
in_take (suc n) [] id h = nil_none id _ h
in_take (suc n) (x ∷ xs) id h = ⊎_elim
    (λ e. (0, omega arith, omega arith, e))
    (λ back. let r = in_take n xs id back in let low = r.1 in let short = r.2 in (suc r.0, omega (arith, low), omega (arith, short), r.3))
    (cons_cases x (take n xs) id h)

fewer : (p : ℕ → Bool) (xs : List ℕ) → length (filter p xs) ≤ length xs
fewer p [] = omega arith
fewer p (x ∷ xs) = by (p x) (fewer p xs)
  where
    by : (b : Bool) → length (filter p xs) ≤ length xs → length (cond b (x ∷ filter p xs) (filter p xs)) ≤ suc (length xs)
    by true less = omega (arith, less)
    by false less = omega (arith, less)

pub first_chosen : (n : ℕ) (ids : List ℕ) (id : ℕ) → n ≤ 64 → is_among (take n ids) id ≡ true → is_among (chosen_ids (below n) ids) id ≡ true
first_chosen n ids id few there =
    let there_at = in_take n ids id (among_to (take n ids) id there) in
    let i : ℕ = there_at.0 in
    let p : ℕ → Bool = λ j. ltb j (length ids) in
    let left : List ℕ = filter p (each_once (below n)) in
    let inside : Contains left i =
    in_filter p (each_once (below n)) i (subst (λ (ns : List ℕ). Contains ns i) (sym (once_below n)) (in_below n i there_at.1))
    (lt-ltb i (length ids) there_at.2) in
    let short : length left ≤ 64 = omega (arith, fewer p (each_once (below n)), ap length (once_below n), length_below n, few) in
    among_from (chosen_ids (below n) ids) id
    (subst (λ m. Contains (chosen_ids (below n) ids) m) there_at.3
    (in_map (λ j. get_or ids j 0) (take 64 left) i (subst (λ (ns : List ℕ). Contains ns i) (sym (take_all 64 left short)) inside)))
