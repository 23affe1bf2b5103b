-- How long the spelling of a leaf is.
use Rattle.std.proofs.Common.{◌≡◌, ◌<◌, ◌≤◌, ◌+◌, ◌-◌, ◌*◌, ◌/◌, ◌^◌, ℕ, eqb, ltb, List, [], ◌∷◌, ◌++◌, map, length, get_or, drop, refl, sym, ap, ◌∙◌, arith}
use Rattle.std.proofs.Common.{cond, inl, inr, Option, Some, None, length-append, length-drop, length-take, mul-le-mul_right, mul-le-mul_left, ltb-true}
use Rattle.std.specs.List.{flat_map, range_with_len, sum_by}
use Rattle.std.specs.Int.{w32, to_be_bytes}
use Rattle.std.proofs.lemmas.Bool.{cases_Bool, eq-eqb, cond-true, cond-false}
use Rattle.std.proofs.lemmas.List.{length-map, get_or-map}
use Rattle.std.proofs.lemmas.List.Concat.{length-flat_map}
use Rattle.std.proofs.lemmas.List.FromFn.{length-range_with_len, get_or-range_with_len}
use Rattle.std.proofs.lemmas.List.Sums.{sum_by-cons, sum_by-le, get_or-le-sum_by}
use Rattle.std.proofs.lemmas.Nat.{div-add-mod'}
use Rattle.point_codec.specs.Points.{Item}
use Rattle.leaf_codec.specs.Dimensions.{key_of, key_byte, shared_prefix, sorted_dimension}
use Rattle.leaf_codec.specs.Leaves.{AreLeaf}
use Rattle.leaf_codec.specs.Spelling.{least, greatest, form, width, is_row, low_bytes, numbers, shared_bytes, prefixes}
use Rattle.leaf_codec.specs.Spelling.{pieces, piece_bytes, sorted_bytes, sorted_part, told_length, rest, rests, spelling}
use Rattle.byte_cursor.specs.Vint.{vint}
use Rattle.leaf_codec.proofs.Lists.{sum_agree}
use Rattle.leaf_codec.proofs.NumbersLemmas.{least-le}
use Rattle.leaf_codec.proofs.Permuted.{sorted_found}
use Rattle.byte_cursor.proofs.SpelledVints.{length-vint}
use Rattle.leaf_codec.proofs.Written.{length-key_of, shared_prefix-le, told-le}

sum_add : (f g : ℕ → ℕ) (xs : List ℕ) → sum_by (λ x. f x + g x) xs ≡ sum_by f xs + sum_by g xs
sum_add f g [] = refl
sum_add f g (x ∷ xs) = omega (arith, sum_by-cons (λ y. f y + g y) x xs, sum_by-cons f x xs, sum_by-cons g x xs, sum_add f g xs)

sum_const : (m : ℕ) (xs : List ℕ) → sum_by (λ _. m) xs ≡ length xs * m
sum_const m [] = omega arith
sum_const m (x ∷ xs) = omega (arith, sum_by-cons (λ _. m) x xs, sum_const m xs)

-- ---- the numbers

form-le : (ns : List ℕ) → form ns ≤ 3
unfolding form
form-le ns = elim (cases_Bool (is_row ns)) [
  | inl row ↦ omega (arith, cond-true (is_row ns) 0 (width (greatest ns - least ns)) row)
  | inr other ↦ omega (arith, cond-false (is_row ns) 0 (width (greatest ns - least ns)) other, width-le (greatest ns - least ns))
]
  where
    width-le : (n : ℕ) → width n ≤ 3
    width-le n = grind arith

length-low_bytes : (w n : ℕ) → length (low_bytes w n) ≡ 4 - (4 - w)
length-low_bytes w n = length-drop (4 - w) (to_be_bytes w32 n)

length-numbers : (ns : List ℕ) → least ns < 2 ^ 32 → length (numbers ns) ≤ 6 + 3 * length ns
unfolding numbers
length-numbers ns low =
    let spell : ℕ → List ℕ = λ n. low_bytes (form ns) (n - least ns) in
    omega (
      arith,
      length-append (form ns ∷ vint (least ns)) (flat_map spell ns),
      length-vint (least ns) low,
      length-flat_map spell ns,
      sum_by-le (λ n. length (spell n)) 3 ns (λ k d lt. omega (arith, length-low_bytes (form ns) (get_or ns k d - least ns), form-le ns)),
    )

-- ---- the prefixes

-- how many bytes all prefixes take
abbrev all_shared : ℕ → List Item → ℕ
all_shared D items = sum_by (λ d. shared_prefix d items) (range_with_len 0 D)

length-shared_bytes : (d : ℕ) (items : List Item) → 0 < length items → length (shared_bytes d items) ≡ shared_prefix d items
length-shared_bytes d [] some = absurd (omega arith)
length-shared_bytes d (x ∷ items) some =
    omega (arith, length-take (shared_prefix d (x ∷ items)) (key_of d x), length-key_of d x, shared_prefix-le d (x ∷ items))

length-prefixes : (D : ℕ) (items : List Item) → 0 < length items → length (prefixes D items) ≡ D + all_shared D items
unfolding prefixes
length-prefixes D items some =
    let lengths = map (λ d. shared_prefix d items) (range_with_len 0 D) in
    omega (
      arith,
      length-append lengths (flat_map (λ d. shared_bytes d items) (range_with_len 0 D)),
      length-map (range_with_len 0 D) (λ d. shared_prefix d items),
      length-range_with_len 0 D,
      length-flat_map (λ d. shared_bytes d items) (range_with_len 0 D),
      sum_agree (λ d. length (shared_bytes d items)) (λ d. shared_prefix d items) 0 D (λ d low high. length-shared_bytes d items some),
    )

-- ---- the sorted bytes

pub length-pieces : (ps : List (ℕ × ℕ)) → length (flat_map piece_bytes ps) ≡ 2 * length ps
length-pieces [] = omega arith
length-pieces (p ∷ ps) = omega (arith, length-pieces ps)

length-sorted_bytes : (bs : List ℕ) → length (sorted_bytes bs) ≤ 1 + length bs
unfolding sorted_bytes
length-sorted_bytes bs = elim (cases_Bool (ltb (2 * length (pieces bs)) (length bs))) [
  | inl fewer ↦ omega (
    arith,
    ap length (cond-true (ltb (2 * length (pieces bs)) (length bs)) (1 ∷ length (pieces bs) ∷ flat_map piece_bytes (pieces bs)) (0 ∷ bs) fewer),
    length-pieces (pieces bs),
    ltb-true (2 * length (pieces bs)) (length bs) fewer,
  )
  | inr plain ↦ omega
      (arith, ap length (cond-false (ltb (2 * length (pieces bs)) (length bs)) (1 ∷ length (pieces bs) ∷ flat_map piece_bytes (pieces bs)) (0 ∷ bs) plain))
]

-- how many bytes of each item are among the sorted ones
abbrev some_sorted : Option ℕ → ℕ
some_sorted None = 0
some_sorted (Some s) = 1

length-sorted_part : (o : Option ℕ) (items : List Item) → length (sorted_part o items) ≤ some_sorted o * (2 + length items)
unfolding sorted_part
length-sorted_part None items = omega arith
length-sorted_part (Some s) items =
    omega (arith, length-sorted_bytes (map (key_byte s (shared_prefix s items)) items), length-map items (key_byte s (shared_prefix s items)))

-- ---- the rests

-- how many bytes of an item's keys are left
abbrev all_left : ℕ → List Item → ℕ
all_left D items = sum_by (λ d. 4 - told_length (sorted_dimension D items) d items) (range_with_len 0 D)

pub length-rest : (D : ℕ) (items : List Item) (x : Item) → length (rest D items x) ≡ all_left D items
length-rest D items x =
    length-flat_map (λ d. drop (told_length (sorted_dimension D items) d items) (key_of d x)) (range_with_len 0 D)
    ∙ sum_agree _ (λ d. 4 - told_length (sorted_dimension D items) d items) 0 D (λ d low high.
    length-drop (told_length (sorted_dimension D items) d items) (key_of d x)
    ∙ ap (λ n. n - told_length (sorted_dimension D items) d items) (length-key_of d x))

length-rests : (D : ℕ) (items : List Item) → length (rests D items) ≤ length items * all_left D items
unfolding rests
length-rests D items =
    omega (
      arith,
      length-flat_map (rest D items) items,
      sum_by-le (λ x. length (rest D items x)) (all_left D items) items (λ k x lt. omega (arith, length-rest D items (get_or items k x))),
    )

-- the four bytes of each key are shared, sorted or left
parts_of_keys : (D : ℕ) (items : List Item) → all_left D items + all_shared D items + some_sorted (sorted_dimension D items) ≤ 4 * D
parts_of_keys D items = by (sorted_dimension D items) (λ s e. (sorted_found D items s e).1) (λ d. told-le D d items)
  where
    range : List ℕ
    range = range_with_len 0 D

    -- what is told of a key, and what is left
    whole : (o : Option ℕ) → ((d : ℕ) → told_length o d items ≤ 4)
        → sum_by (λ d. 4 - told_length o d items) range + sum_by (λ d. told_length o d items) range ≡ 4 * D
    whole o fits =
        sym (sum_add (λ d. 4 - told_length o d items) (λ d. told_length o d items) range)
        ∙ sum_agree (λ d. (4 - told_length o d items) + told_length o d items) (λ _. 4) 0 D (λ d low high. omega (arith, fits d))
        ∙ sum_const 4 range ∙ omega (arith, length-range_with_len 0 D)

    flag : ℕ → ℕ → ℕ
    flag s d = cond (eqb d s) 1 0

    told_some : (s d : ℕ) → told_length (Some s) d items ≡ shared_prefix d items + flag s d
    told_some s d = elim (cases_Bool (eqb d s)) [
      | inl same ↦ cond-true (eqb d s) (shared_prefix d items + 1) (shared_prefix d items) same ∙ ap (λ b. shared_prefix d items + cond b 1 0) (sym same)
      | inr apart ↦ cond-false (eqb d s) (shared_prefix d items + 1) (shared_prefix d items) apart ∙ omega arith
          ∙ ap (λ b. shared_prefix d items + cond b 1 0) (sym apart)
    ]

    by : (o : Option ℕ) → ((s : ℕ) → o ≡ Some s → s < D) → ((d : ℕ) → told_length o d items ≤ 4)
        → sum_by (λ d. 4 - told_length o d items) range + all_shared D items + some_sorted o ≤ 4 * D
    by None within fits = omega (arith, whole None fits)
    by (Some s) within fits =
        let split : sum_by (λ d. told_length (Some s) d items) range ≡ all_shared D items + sum_by (flag s) range =
        sum_agree (λ d. told_length (Some s) d items) (λ d. shared_prefix d items + flag s d) 0 D (λ d low high. told_some s d)
        ∙ sum_add (λ d. shared_prefix d items) (flag s) range in
        let at : get_or range s 0 ≡ s = get_or-range_with_len 0 D s 0 (within s refl) ∙ omega arith in
        let one : flag s (get_or range s 0) ≡ 1 = ap (λ b. cond b 1 0) (eq-eqb (get_or range s 0) s at) in
        omega (arith, whole (Some s) fits, split, one, get_or-le-sum_by (flag s) range s 0 (omega (arith, within s refl, length-range_with_len 0 D)))

-- ---- the whole

-- n entries of k bytes each fit into 4,000 bytes
fits_page : (n k : ℕ) → n ≤ 4000 / k → n * k ≤ 4000
fits_page n k h = omega (arith, mul-le-mul_right k h, div-add-mod' 4000 k)

-- the parts of a leaf of n items together: of the keys, shared bytes stand once, the others n times
parts_fit : (D n shared left sorted numbers prefixes bytes rests : ℕ) → D ≤ 8 → 1 ≤ n → n * (4 + 4 * D) ≤ 4000 → left + shared + sorted ≤ 4 * D → sorted ≤ 1
    → numbers ≤ 6 + 3 * n → prefixes ≡ D + shared → bytes ≤ sorted * (2 + n) → rests ≤ n * left → 2 + numbers + prefixes + bytes + rests ≤ 4064
parts_fit D n shared left sorted numbers prefixes bytes rests dims some few keys once hn hp hb hr =
    omega (arith, mul-le-mul_left n keys, mul-le-mul_right shared some, mul-le-mul_right n once)

some_sorted-le : (o : Option ℕ) → some_sorted o ≤ 1
some_sorted-le None = omega arith
some_sorted-le (Some s) = omega arith

pub length-spelling : (D : ℕ) (items : List Item) → D ≤ 8 → AreLeaf D items → (1 ≤ length (spelling D items)) × (length (spelling D items) ≤ 4064)
unfolding spelling
length-spelling D items dims leaf =
    let n = length items in
    let ns = map (λ (x : Item). x.doc) items in
    let o = sorted_dimension D items in
    let nothing : Item = record { doc = 0; at = [] } in
    let first : get_or ns 0 0 ≡ (get_or items 0 nothing).doc = get_or-map (λ (x : Item). x.doc) items 0 nothing 0 leaf.some in
    let long : length ns ≡ n = length-map items (λ (x : Item). x.doc) in
    let low : least ns < 2 ^ 32 = omega (arith, first, long, least-le ns 0 (omega (arith, long, leaf.some)), leaf.numbers 0 nothing leaf.some) in
    let fits = parts_fit D n (all_shared D items) (all_left D items) (some_sorted o) (length (numbers ns)) (length (prefixes D items))
    (length (sorted_part o items)) (length (rests D items))
    dims leaf.some (fits_page n (4 + 4 * D) leaf.few) (parts_of_keys D items) (some_sorted-le o)
    (omega (arith, length-numbers ns low, long)) (length-prefixes D items leaf.some) (length-sorted_part o items) (length-rests D items) in (
      omega arith,
      omega (
        arith,
        fits,
        length-append (numbers ns ++ prefixes D items ++ sorted_part o items) (rests D items),
        length-append (numbers ns ++ prefixes D items) (sorted_part o items),
        length-append (numbers ns) (prefixes D items),
      ),
    )
