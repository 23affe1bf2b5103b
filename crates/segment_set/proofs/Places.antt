-- Which segments are chosen by positions: the first 64 different places below the count, and the ids there.
use Rattle.std.proofs.Common.{◌≡◌, ℕ, zero, suc, ◌+◌, ◌≤◌, ◌<◌, Bool, true, false, not, ◌||◌, eqb, ltb, cond, List, []}
use Rattle.std.proofs.Common.{◌∷◌, ◌++◌, length, map, take, get_or, Some, append_assoc, refl, sym, ap, subst, ◌∙◌, arith}
use Rattle.std.specs.List.{All, Contains, filter, slice_get}
use Rattle.std.proofs.lemmas.Bool.{eq-eqb, eqb-true}
use Rattle.std.proofs.lemmas.Bool.Decides.{nat_tests}
use Rattle.std.proofs.lemmas.List.{append-nil, length-append, length-take, map-append, take-append-le, take_all, take_more}
use Rattle.std.specs.List.Sorted.{IsStrictlyIncreasing}
use Rattle.std.proofs.lemmas.List.Elements.{Contains-get_or, filter-append}
use Rattle.documents.specs.Entries.{is_among}
use Rattle.documents.proofs.Kept.{among_from, among_to}
use Rattle.documents.proofs.Lists.{in_map, of_map}
use Rattle.segment_file.specs.Heads.{Head}
use Rattle.segment_view.specs.LiveSegments.{LiveSegment, heads_of, ids_of, parts_among}
use Rattle.segment_set.specs.Merged.{each_once}

pub map_heads : {X : Type 0} (f : ℕ → X) (parts : List LiveSegment) → map (λ h. f h.id) (heads_of parts) ≡ map (λ p. f p.head.id) parts
map_heads f [] = refl
map_heads f (p ∷ ps) = ap (λ xs. f p.head.id ∷ xs) (map_heads f ps)

-- ---- positions, each once

pub once_more : (xs : List ℕ) (n : ℕ) → each_once (xs ++ n ∷ []) ≡ cond (is_among xs n) (each_once xs) (each_once xs ++ n ∷ [])
once_more [] n = refl
once_more (x ∷ xs) n = by (is_among xs n) (eqb x n) refl (once_more xs n)
  where
    others : ℕ → Bool
    others m = not (eqb m x)

    turned : (e : Bool) → eqb x n ≡ e → eqb n x ≡ e
    turned true h = eq-eqb n x (sym (eqb-true x n h))
    turned false h = grind (arith, nat_tests)

    by : (b e : Bool) → eqb x n ≡ e → each_once (xs ++ n ∷ []) ≡ cond b (each_once xs) (each_once xs ++ n ∷ [])
        → x ∷ filter (λ m. not (eqb m x)) (each_once (xs ++ n ∷ [])) ≡ cond (e || b) (each_once (x ∷ xs)) (each_once (x ∷ xs) ++ n ∷ [])
    by true true is rest = ap (λ (ns : List ℕ). x ∷ filter (λ m. not (eqb m x)) ns) rest
    by true false is rest = ap (λ (ns : List ℕ). x ∷ filter (λ m. not (eqb m x)) ns) rest
    by false true is rest =
        ap (λ (ns : List ℕ). x ∷ filter (λ m. not (eqb m x)) ns) rest
        ∙ ap (λ (ns : List ℕ). x ∷ ns)
        (filter-append (λ m. not (eqb m x)) (each_once xs) (n ∷ [])
        ∙ ap (λ b. filter (λ m. not (eqb m x)) (each_once xs) ++ cond (not b) (n ∷ []) []) (turned true is)
        ∙ append-nil (filter (λ m. not (eqb m x)) (each_once xs)))
    by false false is rest =
        ap (λ (ns : List ℕ). x ∷ filter (λ m. not (eqb m x)) ns) rest
        ∙ ap (λ (ns : List ℕ). x ∷ ns)
        (filter-append (λ m. not (eqb m x)) (each_once xs) (n ∷ [])
        ∙ ap (λ b. filter (λ m. not (eqb m x)) (each_once xs) ++ cond (not b) (n ∷ []) []) (turned false is))

among_filter : (keep : ℕ → Bool) (xs : List ℕ) (n : ℕ) → keep n ≡ true → is_among (filter keep xs) n ≡ is_among xs n
among_filter keep [] n h = refl
among_filter keep (x ∷ xs) n h = by (keep x) refl (eqb x n) refl (among_filter keep xs n h)
  where
    by : (k : Bool) → keep x ≡ k → (e : Bool) → eqb x n ≡ e → is_among (filter keep xs) n ≡ is_among xs n
        → is_among (cond k (x ∷ filter keep xs) (filter keep xs)) n ≡ (e || is_among xs n)
    by true k e is rest = ap (λ b. b || is_among (filter keep xs) n) is ∙ ap (λ b. e || b) rest
    by false k true is rest = let there : keep x ≡ true = ap keep (eqb-true x n is) ∙ h in cc
    by false k false is rest = rest

among_once : (xs : List ℕ) (n : ℕ) → is_among (each_once xs) n ≡ is_among xs n
among_once [] n = refl
among_once (x ∷ xs) n = by (eqb x n) refl (among_once xs n)
  where
    by : (e : Bool) → eqb x n ≡ e → is_among (each_once xs) n ≡ is_among xs n
        → (e || is_among (filter (λ m. not (eqb m x)) (each_once xs)) n) ≡ (e || is_among xs n)
    by true is rest = refl
    by false is rest = among_filter (λ m. not (eqb m x)) (each_once xs) n (other is) ∙ rest
      where
        other : eqb x n ≡ false → not (eqb n x) ≡ true
        other h = grind (arith, nat_tests)

-- ---- the first places

take_short : (n : ℕ) (xs : List ℕ) → length (take n xs) < n → take n xs ≡ xs
take_short n xs short = take_all n xs (omega (arith, short, length-take n xs))

-- the first 64 places below the count
abbrev pub firsts : ℕ → List ℕ → List ℕ
firsts count seen = take 64 (filter (λ i. ltb i count) (each_once seen))

module _ (count : ℕ) (seen : List ℕ) (p : ℕ) where
  below : ℕ → Bool
  below i = ltb i count

  -- one that is below the count and new, where there is room
  pub place_more : length (firsts count seen) < 64 → ltb p count ≡ true → is_among (firsts count seen) p ≡ false
      → firsts count seen ++ p ∷ [] ≡ firsts count (seen ++ p ∷ [])
  place_more room here new =
      let whole : firsts count seen ≡ filter (λ i. ltb i count) (each_once seen) = take_short 64 (filter (λ i. ltb i count) (each_once seen)) room in
      let unseen : is_among seen p ≡ false =
      sym (among_once seen p) ∙ sym (among_filter (λ i. ltb i count) (each_once seen) p here) ∙ sym (ap (λ (ns : List ℕ). is_among ns p) whole) ∙ new in
      let more : each_once (seen ++ p ∷ []) ≡ each_once seen ++ p ∷ [] =
      once_more seen p ∙ ap (λ b. cond b (each_once seen) (each_once seen ++ p ∷ [])) unseen in
      let kept : filter (λ i. ltb i count) (each_once (seen ++ p ∷ [])) ≡ filter (λ i. ltb i count) (each_once seen) ++ p ∷ [] =
      ap (filter (λ i. ltb i count)) more
      ∙ filter-append (λ i. ltb i count) (each_once seen) (p ∷ [])
      ∙ ap (λ b. filter (λ i. ltb i count) (each_once seen) ++ cond b (p ∷ []) []) here in
      let long : length (filter (λ i. ltb i count) (each_once (seen ++ p ∷ []))) ≤ 64 =
      omega (arith, room, ap length whole, ap length kept, length-append (filter (λ i. ltb i count) (each_once seen)) (p ∷ [])) in
      ap (λ (ns : List ℕ). ns ++ p ∷ []) whole ∙ sym kept ∙ sym (take_all 64 (filter (λ i. ltb i count) (each_once (seen ++ p ∷ []))) long)

  -- one that isn't below the count
  pub place_past : ltb p count ≡ false → firsts count seen ≡ firsts count (seen ++ p ∷ [])
  place_past past = ap (take 64) (sym (ap (filter (λ i. ltb i count)) (once_more seen p) ∙ by (is_among seen p)))
    where
      by : (b : Bool) → filter (λ i. ltb i count) (cond b (each_once seen) (each_once seen ++ p ∷ [])) ≡ filter (λ i. ltb i count) (each_once seen)
      by true = refl
      by false =
          filter-append (λ i. ltb i count) (each_once seen) (p ∷ [])
          ∙ ap (λ b. filter (λ i. ltb i count) (each_once seen) ++ cond b (p ∷ []) []) past
          ∙ append-nil (filter (λ i. ltb i count) (each_once seen))

  -- one that stands there already
  pub place_again : length (firsts count seen) < 64 → ltb p count ≡ true → is_among (firsts count seen) p ≡ true
      → firsts count seen ≡ firsts count (seen ++ p ∷ [])
  place_again room here there =
      let whole : firsts count seen ≡ filter (λ i. ltb i count) (each_once seen) = take_short 64 (filter (λ i. ltb i count) (each_once seen)) room in
      let known : is_among seen p ≡ true =
      sym (among_once seen p) ∙ sym (among_filter (λ i. ltb i count) (each_once seen) p here) ∙ sym (ap (λ (ns : List ℕ). is_among ns p) whole) ∙ there in
      ap (λ (ns : List ℕ). take 64 (filter (λ i. ltb i count) ns)) (sym (once_more seen p ∙ ap (λ b. cond b (each_once seen) (each_once seen ++ p ∷ [])) known))

once_begins : (xs ys : List ℕ) → (zs : List ℕ) × (each_once (xs ++ ys) ≡ each_once xs ++ zs)
once_begins xs [] = ([], ap each_once (append-nil xs) ∙ sym (append-nil (each_once xs)))
once_begins xs (y ∷ ys) =
    let rest = once_begins (xs ++ y ∷ []) ys in
    let more : List ℕ = cond (is_among xs y) [] (y ∷ []) in (
      more ++ rest.0,
      ap each_once (sym (append_assoc xs (y ∷ []) ys)) ∙ rest.1 ∙ ap (λ (ns : List ℕ). ns ++ rest.0) (once_more xs y ∙ by (is_among xs y))
          ∙ append_assoc (each_once xs) more rest.0,
    )
  where
    by : (b : Bool) → cond b (each_once xs) (each_once xs ++ y ∷ []) ≡ each_once xs ++ cond b [] (y ∷ [])
    by true = sym (append-nil (each_once xs))
    by false = refl

-- where there are 64 no later one counts
pub places_full : (count : ℕ) (seen rest : List ℕ) → length (firsts count seen) ≡ 64 → firsts count seen ≡ firsts count (seen ++ rest)
places_full count seen rest full =
    let more = once_begins seen rest in
    let long : 64 ≤ length (filter (λ i. ltb i count) (each_once seen)) = omega (arith, full, length-take 64 (filter (λ i. ltb i count) (each_once seen))) in
    sym (ap (take 64) (ap (filter (λ i. ltb i count)) more.1 ∙ filter-append (λ i. ltb i count) (each_once seen) more.0)
    ∙ take-append-le 64 (filter (λ i. ltb i count) (each_once seen)) (filter (λ i. ltb i count) more.0) long)

-- ---- ids at places

pub id_at : (parts : List LiveSegment) (i : ℕ) (d : Head) → i < length parts → (get_or (heads_of parts) i d).id ≡ get_or (ids_of parts) i 0
id_at [] i d lt = absurd (omega (arith, lt))
id_at (p ∷ ps) zero d lt = refl
id_at (p ∷ ps) (suc i) d lt = id_at ps i d (omega (arith, lt))

-- an id at one of these positions
pub at_position : (ids positions : List ℕ) (id : ℕ) → is_among (map (λ i. get_or ids i 0) positions) id ≡ true
    → (i : ℕ) × Contains positions i × (get_or ids i 0 ≡ id)
at_position ids positions id there = of_map (λ i. get_or ids i 0) positions id (among_to (map (λ i. get_or ids i 0) positions) id there)

pub get_map : (f : ℕ → Bool) (ids : List ℕ) (i : ℕ) (b : Bool) → i < length ids → slice_get (map f ids) i ≡ Some b → f (get_or ids i 0) ≡ b
get_map f [] i b lt h = absurd (omega (arith, lt))
get_map f (n ∷ ns) zero b lt h = cc
get_map f (n ∷ ns) (suc i) b lt h = get_map f ns i b (omega (arith, lt)) h

one_kept : {X : Type 0} (p : X → Bool) (xs : List X) (i : ℕ) (d : X) → i < length xs → p (get_or xs i d) ≡ true → 1 ≤ length (filter p xs)
one_kept p [] i d lt h = absurd (omega (arith, lt))
one_kept p (x ∷ xs) zero d lt h = ap_le p x xs h
  where
    ap_le : {X : Type 0} (p : X → Bool) (x : X) (xs : List X) → p x ≡ true → 1 ≤ length (filter p (x ∷ xs))
    ap_le p x xs h = rw h (omega arith)
one_kept p (x ∷ xs) (suc i) d lt h = by (p x) (one_kept p xs i d (omega (arith, lt)) h)
  where
    by : (b : Bool) → 1 ≤ length (filter p xs) → 1 ≤ length (cond b (x ∷ filter p xs) (filter p xs))
    by true rest = omega arith
    by false rest = rest

-- a filter keeps two elements where two places pass
two_kept : {X : Type 0} (p : X → Bool) (xs : List X) (i j : ℕ) (d : X) → i < j → j < length xs → p (get_or xs i d) ≡ true → p (get_or xs j d) ≡ true
    → 2 ≤ length (filter p xs)
two_kept p [] i j d lt in_range h k = absurd (omega (arith, in_range))
two_kept p (x ∷ xs) i zero d lt in_range h k = absurd (omega (arith, lt))
two_kept p (x ∷ xs) zero (suc j) d lt in_range h k = rw h (omega (arith, one_kept p xs j d (omega (arith, in_range)) k))
two_kept p (x ∷ xs) (suc i) (suc j) d lt in_range h k = by (p x) (two_kept p xs i j d (omega (arith, lt)) (omega (arith, in_range)) h k)
  where
    by : (b : Bool) → 2 ≤ length (filter p xs) → 2 ≤ length (cond b (x ∷ filter p xs) (filter p xs))
    by true rest = omega (arith, rest)
    by false rest = rest

part_id : (parts : List LiveSegment) (i : ℕ) (d : LiveSegment) → i < length parts → (get_or parts i d).head.id ≡ get_or (ids_of parts) i 0
part_id [] i d lt = absurd (omega (arith, lt))
part_id (p ∷ ps) zero d lt = refl
part_id (p ∷ ps) (suc i) d lt = part_id ps i d (omega (arith, lt))

-- rising positions name different segments
pub two_there : (parts : List LiveSegment) (positions : List ℕ) → 2 ≤ length positions → IsStrictlyIncreasing positions → All (λ i. i < length parts) positions
    → 2 ≤ length (parts_among (map (λ i. get_or (ids_of parts) i 0) positions) parts)
two_there [] positions some rises within = absurd (omega (arith, within 0 0 (omega (arith, some))))
two_there (q ∷ qs) positions some rises within =
    two_kept (λ (p : LiveSegment). is_among ids p.head.id) (q ∷ qs) (get_or positions 0 0) (get_or positions 1 0) q (rises 0 (omega (arith, some)))
    (within 1 0 (omega (arith, some)))
    (there 0 (omega (arith, some))) (there 1 (omega (arith, some)))
  where
    ids : List ℕ
    ids = map (λ i. get_or (ids_of (q ∷ qs)) i 0) positions

    there : (k : ℕ) → k < length positions → is_among ids (get_or (q ∷ qs) (get_or positions k 0) q).head.id ≡ true
    there k lt =
        among_from ids (get_or (q ∷ qs) (get_or positions k 0) q).head.id
        (subst (Contains ids) (sym (part_id (q ∷ qs) (get_or positions k 0) q (within k 0 lt)))
        (in_map (λ i. get_or (ids_of (q ∷ qs)) i 0) positions (get_or positions k 0) (Contains-get_or positions k 0 lt)))

-- ---- one head after another

-- at each place one head more
pub heads_more : {X : Type 0} (f : Head → X) (heads : List Head) (i : ℕ) (head : Head) → i < length heads → head ≡ get_or heads i head
    → map f (take (i + 1) heads) ≡ map f (take i heads) ++ f head ∷ []
heads_more f heads i head lt is =
    ap (map f) (take_more heads i head lt ∙ ap (λ h. take i heads ++ h ∷ []) (sym is))
    ∙ map-append f (take i heads) (head ∷ [])

-- an id that is none of these comes to the others
pub kept_more : (keep : ℕ → Bool) (heads : List Head) (i : ℕ) (head : Head) → i < length heads → head ≡ get_or heads i head
    → filter keep (map (λ h. h.id) (take (i + 1) heads)) ≡ filter keep (map (λ h. h.id) (take i heads)) ++ cond (keep head.id) (head.id ∷ []) []
kept_more keep heads i head lt is =
    ap (filter keep) (heads_more (λ h. h.id) heads i head lt is) ∙ filter-append keep (map (λ h. h.id) (take i heads)) (head.id ∷ [])

pub room_left : (n most : ℕ) → eqb n most ≡ false → n ≤ most → n < most
room_left n most other le = grind (arith, nat_tests)
