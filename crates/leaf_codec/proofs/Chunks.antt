-- Lists joined of parts whose lengths are known, and the parts found again by their places.
use Rattle.std.proofs.Common.{◌≡◌, ◌<◌, ◌+◌, ◌*◌, ℕ, zero, suc, List, [], ◌∷◌, ◌++◌, map, length, get_or, take, drop, refl, sym, ap}
use Rattle.std.proofs.Common.{subst, ◌∙◌, arith, inl, inr, take_at, drop_at, take-add, drop-drop, append_assoc, append-nil, take_all}
use Rattle.std.specs.List.{flat_map, range_with_len, sum_by}
use Rattle.std.proofs.lemmas.Bool.{cases_eq}
use Rattle.std.proofs.lemmas.List.Concat.{length-flat_map}
use Rattle.std.proofs.lemmas.List.Sums.{sum_by_push}
use Rattle.leaf_codec.proofs.Lists.{as_range, range_more, flat_map-range_more, sum_agree}

-- where part d begins, the parts having these lengths
abbrev pub place : (ℕ → ℕ) → ℕ → ℕ
place wide d = sum_by wide (range_with_len 0 d)

pub place_more : (wide : ℕ → ℕ) (n : ℕ) → place wide (n + 1) ≡ place wide n + wide n
place_more wide n = ap (sum_by wide) (range_more 0 n ∙ ap (λ m. range_with_len 0 n ++ m ∷ []) (omega arith)) ∙ sum_by_push wide (range_with_len 0 n) n

pub place_const : (m n : ℕ) → place (λ _. m) n ≡ n * m
place_const m zero = omega arith
place_const m (suc n) =
    let more = place_more (λ _. m) n in
    let next : suc n ≡ n + 1 = omega arith in
    ap (place (λ _. m)) next ∙ more ∙ ap (λ k. k + m) (place_const m n) ∙ omega arith

length-parts : (part : ℕ → List ℕ) (wide : ℕ → ℕ) (n : ℕ) → ((d : ℕ) → d < n → length (part d) ≡ wide d)
    → length (flat_map part (range_with_len 0 n)) ≡ place wide n
length-parts part wide n long =
    length-flat_map part (range_with_len 0 n) ∙ sum_agree (λ d. length (part d)) wide 0 n (λ d low high. long d (omega arith))

-- a part is found at its place, whatever follows the parts
pub part_at : (part : ℕ → List ℕ) (wide : ℕ → ℕ) (n d : ℕ) (tail : List ℕ) → d < n → ((e : ℕ) → e < n → length (part e) ≡ wide e)
    → take (wide d) (drop (place wide d) (flat_map part (range_with_len 0 n) ++ tail)) ≡ part d
part_at part wide zero d tail lt long = absurd (omega arith)
part_at part wide (suc n) d tail lt long =
    let next : suc n ≡ n + 1 = omega arith in
    let before = flat_map part (range_with_len 0 n) in
    let joined : flat_map part (range_with_len 0 (suc n)) ++ tail ≡ before ++ (part n ++ tail) =
    ap (λ m. flat_map part (range_with_len 0 m) ++ tail) next ∙ ap (λ (t : List ℕ). t ++ tail) (flat_map-range_more part n)
    ∙ append_assoc before (part n) tail in
    let front : length before ≡ place wide n = length-parts part wide n (λ e under. long e (omega arith)) in
    ap (λ (t : List ℕ). take (wide d) (drop (place wide d) t)) joined
    ∙ elim (cases_eq d n) [
      | inl same ↦ subst (λ (k : ℕ). take (wide k) (drop (place wide k) (before ++ (part n ++ tail))) ≡ part k) (sym same)
          (ap (take (wide n)) (drop_at before (part n ++ tail) (place wide n) front) ∙ take_at (part n) tail (wide n) (long n (omega arith)))
      | inr apart ↦ part_at part wide n d (part n ++ tail) (omega arith) (λ e under. long e (omega arith))
    ]

-- the parts that a list is cut into make it again
pub parts_joined : (wide : ℕ → ℕ) (bytes : List ℕ) (from n : ℕ)
    → flat_map (λ d. take (wide d) (drop (from + place wide d) bytes)) (range_with_len 0 n) ≡ take (place wide n) (drop from bytes)
parts_joined wide bytes from zero = refl
parts_joined wide bytes from (suc n) =
    let part : ℕ → List ℕ = λ d. take (wide d) (drop (from + place wide d) bytes) in
    let next : suc n ≡ n + 1 = omega arith in
    let shifted : drop (from + place wide n) bytes ≡ drop (place wide n) (drop from bytes) = sym (drop-drop (place wide n) from bytes) in
    ap (λ m. flat_map part (range_with_len 0 m)) next
    ∙ flat_map-range_more part n
    ∙ (λ i. parts_joined wide bytes from n i ++ take (wide n) (shifted i))
    ∙ sym (take-add (place wide n) (wide n) (drop from bytes))
    ∙ ap (λ m. take m (drop from bytes)) (sym (place_more wide n) ∙ ap (place wide) (sym next))

-- ---- parts of one length, one for each element

flat_map-map : {X Y : Type 0} (f : Y → List ℕ) (g : X → Y) (xs : List X) → flat_map f (map g xs) ≡ flat_map (λ x. f (g x)) xs
flat_map-map f g [] = refl
flat_map-map f g (x ∷ xs) = ap (λ (t : List ℕ). f (g x) ++ t) (flat_map-map f g xs)

pub flat_map-as_range : {X : Type 0} (f : X → List ℕ) (xs : List X) (d : X) → flat_map f xs ≡ flat_map (λ i. f (get_or xs i d)) (range_with_len 0 (length xs))
flat_map-as_range f xs d = ap (flat_map f) (as_range xs d) ∙ flat_map-map f (λ i. get_or xs i d) (range_with_len 0 (length xs))

pub flat_map-map-range : {Y : Type 0} (f : Y → List ℕ) (g : ℕ → Y) (n : ℕ)
    → flat_map f (map g (range_with_len 0 n)) ≡ flat_map (λ i. f (g i)) (range_with_len 0 n)
flat_map-map-range f g n = flat_map-map f g (range_with_len 0 n)

-- the part of element i
pub chunk_at : {X : Type 0} (f : X → List ℕ) (m : ℕ) (xs : List X) (i : ℕ) (d : X) → i < length xs → ((k : ℕ) → k < length xs → length (f (get_or xs k d)) ≡ m)
    → take m (drop (i * m) (flat_map f xs)) ≡ f (get_or xs i d)
chunk_at f m xs i d lt long =
    let part : ℕ → List ℕ = λ k. f (get_or xs k d) in
    (λ j. take m (drop (sym (place_const m i) j) ((flat_map-as_range f xs d ∙ sym (append-nil (flat_map part (range_with_len 0 (length xs))))) j)))
    ∙ part_at part (λ _. m) (length xs) i [] lt long

-- the list cut into parts of one length
pub chunks_joined : (m n : ℕ) (bytes : List ℕ) → length bytes ≡ n * m → flat_map (λ i. take m (drop (i * m) bytes)) (range_with_len 0 n) ≡ bytes
chunks_joined m n bytes long =
    (λ j. flat_map (λ i. take m (drop (sym (place_is i) j) bytes)) (range_with_len 0 n))
    ∙ parts_joined (λ _. m) bytes 0 n
    ∙ take_all (place (λ _. m) n) bytes (omega (arith, place_const m n, long))
  where
    place_is : (i : ℕ) → 0 + place (λ _. m) i ≡ i * m
    place_is i = omega (arith, place_const m i)
