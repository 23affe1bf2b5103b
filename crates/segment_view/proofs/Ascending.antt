-- Lists of numbers that ascend strictly, and what is put into them, as ids into those of heads.
use Rattle.std.proofs.Common.{◌≡◌, ℕ, ◌<◌, ◌≤◌, ◌+◌, true, false, ◌≢◌, eqb, List, [], ◌∷◌, ◌++◌, length}
use Rattle.std.proofs.Common.{get_or, take, drop, map, sym, ap, subst, ◌∙◌, ◌⊎◌, inl, inr, arith}
use Rattle.std.specs.List.{All, AllPairs, Contains, insert}
use Rattle.std.specs.List.Sorted.{IsStrictlyIncreasing}
use Rattle.std.proofs.lemmas.Bool.{eq-eqb}
use Rattle.std.proofs.lemmas.List.{take-append-drop, take-map, drop-map, map-append, get_or-map, get_or-drop, length-map, length-drop}
use Rattle.std.proofs.lemmas.List.Folds.{list_any_at}
use Rattle.std.proofs.lemmas.Map.Keys.{non_decreasing_from_sorted, sorted_from_strictly_increasing}
use Rattle.std.proofs.lemmas.List.Elements.{All-map, All-contains, All-contains_itself, All-weaker, Contains-append_left}
use Rattle.std.proofs.lemmas.List.Kept.{AllPairs-cons, AllPairs-from_increasing}
use Rattle.documents.specs.Entries.{is_among}
use Rattle.segment_file.specs.Heads.{Head}
use Rattle.documents.proofs.Lists.{cons_cases, pairs_append, pairs_head, pairs_none, pairs_tail}

pub pairs_left : {X : Type 0} (R : X → X → Type 0) (xs ys : List X) → AllPairs R (xs ++ ys) → AllPairs R xs
pairs_left R [] ys h = pairs_none R
pairs_left R (x ∷ xs) ys h =
    AllPairs-cons R x xs
    (All-weaker (Contains xs) (R x) (λ y there. pairs_head R x (xs ++ ys) h y (Contains-append_left xs ys y there)) xs (All-contains_itself xs))
    (pairs_left R xs ys (pairs_tail R x (xs ++ ys) h))

pub pairs_right : {X : Type 0} (R : X → X → Type 0) (xs ys : List X) → AllPairs R (xs ++ ys) → AllPairs R ys
pairs_right R [] ys h = h
pairs_right R (x ∷ xs) ys h = pairs_right R xs ys (pairs_tail R x (xs ++ ys) h)

pub increasing_from_pairs : (xs : List ℕ) → AllPairs (λ x y. x < y) xs → IsStrictlyIncreasing xs
increasing_from_pairs xs h = λ k lt. h k (k + 1) 0 (omega arith) lt

-- a number put between the lesser and the greater ones
pub increasing-insert : (xs : List ℕ) (i y : ℕ) → IsStrictlyIncreasing xs → All (λ x. x < y) (take i xs) → All (λ x. y < x) (drop i xs)
    → IsStrictlyIncreasing (insert xs i y)
increasing-insert xs i y up below above =
    let whole : AllPairs (λ (a b : ℕ). a < b) (take i xs ++ drop i xs) =
    subst (λ (zs : List ℕ). AllPairs (λ (a b : ℕ). a < b) zs) (sym (take-append-drop i xs)) (AllPairs-from_increasing xs up) in
    increasing_from_pairs (insert xs i y)
    (pairs_append (λ (a b : ℕ). a < b) (take i xs) (y ∷ drop i xs)
    (pairs_left (λ (a b : ℕ). a < b) (take i xs) (drop i xs) whole)
    (AllPairs-cons (λ (a b : ℕ). a < b) y (drop i xs) above (pairs_right (λ (a b : ℕ). a < b) (take i xs) (drop i xs) whole))
    (λ a b here there. before a b (All-contains (λ x. x < y) (take i xs) a below here) (cons_cases y (drop i xs) b there)))
  where
    before : (a b : ℕ) → a < y → (y ≡ b) ⊎ Contains (drop i xs) b → a < b
    before a b lt (inl e) = omega (arith, lt, e)
    before a b lt (inr h) = omega (arith, lt, All-contains (λ x. y < x) (drop i xs) b above h)

-- ---- by the ids of heads

pub ids-insert : (heads : List Head) (i : ℕ) (head : Head) → map (λ h. h.id) (insert heads i head) ≡ insert (map (λ h. h.id) heads) i head.id
ids-insert heads i head =
    map-append (λ (h : Head). h.id) (take i heads) (head ∷ drop i heads)
    ∙ ap (λ (ns : List ℕ). ns ++ head.id ∷ map (λ (h : Head). h.id) (drop i heads)) (sym (take-map (λ (h : Head). h.id) i heads))
    ∙ ap (λ (ns : List ℕ). take i (map (λ (h : Head). h.id) heads) ++ head.id ∷ ns) (sym (drop-map (λ (h : Head). h.id) i heads))

pub ids_ascend : (heads : List Head) (i : ℕ) (head : Head) → IsStrictlyIncreasing (map (λ h. h.id) heads) → All (λ h. h.id < head.id) (take i heads)
    → All (λ h. head.id < h.id) (drop i heads)
    → IsStrictlyIncreasing (map (λ h. h.id) (insert heads i head))
ids_ascend heads i head up below above =
    subst IsStrictlyIncreasing (sym (ids-insert heads i head))
    (increasing-insert (map (λ (h : Head). h.id) heads) i head.id up
    (subst (All (λ n. n < head.id)) (sym (take-map (λ (h : Head). h.id) i heads)) (All-map (λ n. n < head.id) (λ (h : Head). h.id) (take i heads) below))
    (subst (All (λ n. head.id < n)) (sym (drop-map (λ (h : Head). h.id) i heads)) (All-map (λ n. head.id < n) (λ (h : Head). h.id) (drop i heads) above)))

-- no head has an id that is none of theirs
pub other_id : (heads : List Head) (id i : ℕ) (d : Head) → is_among (map (λ h. h.id) heads) id ≡ false → i < length heads → (get_or heads i d).id ≢ id
other_id heads id i d fresh within same =
    let at : get_or (map (λ (h : Head). h.id) heads) i 0 ≡ id = get_or-map (λ (h : Head). h.id) heads i d 0 within ∙ same in
    let found : is_among (map (λ (h : Head). h.id) heads) id ≡ true =
    list_any_at (λ n. eqb n id) (map (λ (h : Head). h.id) heads) i 0 (subst (λ n. i < n) (sym (length-map heads (λ (h : Head). h.id))) within)
    (eq-eqb (get_or (map (λ (h : Head). h.id) heads) i 0) id at) in
    cc

-- from a head with a greater id on all have greater ones
pub above_place : (heads : List Head) (i id : ℕ) (d : Head) → IsStrictlyIncreasing (map (λ h. h.id) heads) → i < length heads → id < (get_or heads i d).id
    → All (λ h. id < h.id) (drop i heads)
above_place heads i id d up within lt k e klt =
    let ids : List ℕ = map (λ (h : Head). h.id) heads in
    let fits : i + k < length heads = omega (arith, klt, length-drop i heads) in
    let here : get_or ids i 0 ≡ (get_or heads i d).id = get_or-map (λ (h : Head). h.id) heads i d 0 within in
    let there : get_or ids (i + k) 0 ≡ (get_or heads (i + k) e).id = get_or-map (λ (h : Head). h.id) heads (i + k) e 0 fits in
    let le : get_or ids i 0 ≤ get_or ids (i + k) 0 =
    non_decreasing_from_sorted ids (sorted_from_strictly_increasing ids up) i (i + k) 0 (omega arith)
    (subst (λ n. i + k < n) (sym (length-map heads (λ (h : Head). h.id))) fits) in
    subst (λ (h : Head). id < h.id) (sym (get_or-drop i heads k e)) (omega (arith, lt, here, there, le))
