-- The numbers of a leaf and the fields that spell them.
use Rattle.std.proofs.Common.{◌≡◌, ◌<◌, ◌≤◌, ◌+◌, ◌-◌, ◌*◌, ◌^◌, ◌%◌, ℕ, zero, suc, false, List, [], ◌∷◌, ◌++◌, length, get_or}
use Rattle.std.proofs.Common.{take, drop, replicate, refl, sym, ap, subst, ◌∙◌, arith, cond, ltb, eqb, inl, inr, take-append-drop}
use Rattle.std.proofs.Common.{length-take, length-drop, length-append, drop_at, mul-le-mul_right, mod-eq_of_lt, append_assoc, max}
use Rattle.std.specs.List.{flat_map, All, fold, sum_by}
use Rattle.std.specs.Int.{w32, to_be_bytes}
use Rattle.std.proofs.lemmas.Bool.{cases_Bool, cases_eq, ne_eqb, cond-true, cond-false, ltb-true}
use Rattle.std.proofs.lemmas.List.{same_lists, get_or_default, length-replicate}
use Rattle.std.proofs.lemmas.List.Concat.{length-flat_map}
use Rattle.std.proofs.lemmas.List.Elements.{All-take, All-drop, All-append, All-replicate, All-head, All-tail, All-nil}
use Rattle.std.proofs.lemmas.List.FromFn.{get_or-map-range_with_len, length-map-range_with_len}
use Rattle.std.proofs.lemmas.List.Sums.{sum_by-cons}
use Rattle.leaf_codec.specs.Spelling.{least, greatest, is_row, form, width, numbers, low_bytes}
use Rattle.byte_cursor.specs.Vint.{vint}
use Rattle.leaf_codec.specs.Words.{number_of, AreBytes}
use Rattle.leaf_codec.specs.Raw.{RawNumbers, AreRawNumbers, numbers_bytes, offset_at, raw_docs}
use Rattle.leaf_codec.proofs.Bytes.{number_of-append, number_of-low, number_of-to_be, to_be-number_of}
use Rattle.leaf_codec.proofs.Chunks.{chunk_at, chunks_joined, flat_map-map-range}
use Rattle.leaf_codec.proofs.Lists.{flat_map_agree}
use Rattle.leaf_codec.proofs.NumbersLemmas.{least-le, le-greatest, form_row, form_other, row_at}
use Rattle.byte_cursor.proofs.SpelledVints.{vint_front}
use Rattle.byte_cursor.proofs.Lists.{split_same}

-- ---- a number in its last bytes

AreBytes-to_be : (n : ℕ) → AreBytes (to_be_bytes w32 n)
AreBytes-to_be n = λ k d lt. byte k d lt
  where
    byte : (k d : ℕ) → k < 4 → get_or (to_be_bytes w32 n) k d < 256
    byte zero d lt = omega arith
    byte (suc zero) d lt = omega arith
    byte (suc (suc zero)) d lt = omega arith
    byte (suc (suc (suc zero))) d lt = omega arith
    byte (suc (suc (suc (suc k)))) d lt = absurd (omega arith)

pub length-low_bytes : (w n : ℕ) → w ≤ 4 → length (low_bytes w n) ≡ w
length-low_bytes w n le = omega (arith, length-drop (4 - w) (to_be_bytes w32 n))

pub AreBytes-low_bytes : (w n : ℕ) → AreBytes (low_bytes w n)
AreBytes-low_bytes w n = All-drop (λ (x : ℕ). x < 256) (4 - w) (to_be_bytes w32 n) (AreBytes-to_be n)

pub number_of-low_bytes : (w n : ℕ) → w ≤ 4 → n < 2 ^ 32 → n < 256 ^ w → number_of (low_bytes w n) ≡ n
number_of-low_bytes w n le fits small =
    let four = to_be_bytes w32 n in
    let long = length-low_bytes w n le in
    sym (number_of-low (take (4 - w) four) (low_bytes w n) (AreBytes-low_bytes w n))
    ∙ (λ i. number_of (take-append-drop (4 - w) four i) % 256 ^ long i)
    ∙ ap (λ m. m % 256 ^ w) (number_of-to_be n fits)
    ∙ mod-eq_of_lt small

number_of-zeros : (k : ℕ) → number_of (replicate k 0) ≡ 0
number_of-zeros zero = refl
number_of-zeros (suc k) = omega (arith, number_of-zeros k)

pub low_bytes-number_of : (w : ℕ) (bs : List ℕ) → w ≤ 4 → length bs ≡ w → AreBytes bs → low_bytes w (number_of bs) ≡ bs
low_bytes-number_of w bs le long h =
    let four = replicate (4 - w) 0 ++ bs in
    let same : number_of four ≡ number_of bs =
    number_of-append (replicate (4 - w) 0) bs ∙ ap (λ z. z * 256 ^ length bs + number_of bs) (number_of-zeros (4 - w)) ∙ omega arith in
    let whole : length four ≡ 4 = omega (arith, length-append (replicate (4 - w) 0) bs, length-replicate {A = ℕ} (4 - w) 0, long) in
    let zeros : AreBytes (replicate (4 - w) 0) = All-replicate (λ (x : ℕ). x < 256) (4 - w) 0 (omega arith) in
    ap (λ n. drop (4 - w) (to_be_bytes w32 n)) (sym same)
    ∙ ap (drop (4 - w)) (to_be-number_of four whole (All-append (λ (x : ℕ). x < 256) (replicate (4 - w) 0) bs zeros h))
    ∙ drop_at (replicate (4 - w) 0) bs (4 - w) (length-replicate {A = ℕ} (4 - w) 0)

pub sum_same : {X : Type 0} (f : X → ℕ) (m : ℕ) (xs : List X) → ((x : X) → f x ≡ m) → sum_by f xs ≡ length xs * m
sum_same f m [] h = omega arith
sum_same f m (x ∷ xs) h = omega (arith, sum_by-cons f x xs, sum_same f m xs h, h x)

pub AreBytes-flat_map : {X : Type 0} (f : X → List ℕ) (xs : List X) → ((x : X) → AreBytes (f x)) → AreBytes (flat_map f xs)
AreBytes-flat_map f [] h = All-nil (λ (b : ℕ). b < 256)
AreBytes-flat_map f (x ∷ xs) h = All-append (λ (b : ℕ). b < 256) (f x) (flat_map f xs) (h x) (AreBytes-flat_map f xs h)

-- ---- the fields of numbers

abbrev pub raw_numbers : List ℕ → RawNumbers
raw_numbers ns = record { width = form ns; least = least ns; offsets = flat_map (λ n. low_bytes (form ns) (n - least ns)) ns }

pub numbers_raw : (ns : List ℕ) → numbers ns ≡ numbers_bytes (raw_numbers ns)
unfolding numbers
numbers_raw ns = refl

width-fits : (n : ℕ) → n < 2 ^ 24 → n < 256 ^ width n
width-fits n lt = elim (cases_Bool (ltb n 256)) [
  | inl one ↦ rw (cond-true {A = ℕ} (ltb n 256) 1 (cond (ltb n 65536) 2 3) one) (omega (arith, ltb-true n 256 one))
  | inr more ↦ rw (cond-false {A = ℕ} (ltb n 256) 1 (cond (ltb n 65536) 2 3) more) (elim (cases_Bool (ltb n 65536)) [
    | inl two ↦ rw (cond-true {A = ℕ} (ltb n 65536) 2 3 two) (omega (arith, ltb-true n 65536 two))
    | inr three ↦ rw (cond-false {A = ℕ} (ltb n 65536) 2 3 three) (omega arith)
  ])
]

width-le : (n : ℕ) → (1 ≤ width n) × (width n ≤ 3)
width-le n = (grind arith, grind arith)

pub form-le : (ns : List ℕ) → form ns ≤ 3
form-le ns = elim (cases_Bool (is_row ns)) [
  | inl row ↦ omega (arith, form_row ns row)
  | inr other ↦ omega (arith, form_other ns other, (width-le (greatest ns - least ns)).1)
]

-- each number less the least fits into the bytes of the form
offset-fits : (ns : List ℕ) (i : ℕ) → is_row ns ≡ false → greatest ns < 2 ^ 24 → i < length ns → get_or ns i 0 - least ns < 256 ^ form ns
offset-fits ns i other high lt =
    let span = greatest ns - least ns in
    let fits : span < 256 ^ width span = width-fits span (omega arith) in
    subst (λ (w : ℕ). get_or ns i 0 - least ns < 256 ^ w) (sym (form_other ns other)) (omega (arith, fits, le-greatest ns i lt, least-le ns i lt))

greatest-lt : (ns : List ℕ) (m : ℕ) → 0 < m → All (λ n. n < m) ns → greatest ns < m
greatest-lt ns m pos h = by 0 ns pos h
  where
    by : (k : ℕ) (xs : List ℕ) → k < m → All (λ n. n < m) xs → fold max k xs < m
    by k [] low h = low
    by k (x ∷ xs) low h = by (max k x) xs (omega (arith, All-head (λ (n : ℕ). n < m) x xs h)) (All-tail (λ (n : ℕ). n < m) x xs h)

spelled_offset : (ns : List ℕ) (i : ℕ) → i < length ns
    → take (form ns) (drop (i * form ns) (raw_numbers ns).offsets) ≡ low_bytes (form ns) (get_or ns i 0 - least ns)
spelled_offset ns i lt =
    chunk_at (λ n. low_bytes (form ns) (n - least ns)) (form ns) ns i 0 lt
    (λ k under. length-low_bytes (form ns) (get_or ns k 0 - least ns) (omega (arith, form-le ns)))

-- the fields say the offsets
offset_is : (ns : List ℕ) (i : ℕ) → All (λ n. n < 2 ^ 24) ns → i < length ns → offset_at (raw_numbers ns) i ≡ get_or ns i 0 - least ns
offset_is ns i small lt = elim (cases_Bool (is_row ns)) [
  | inl row ↦ (
      let none : form ns ≡ 0 = form_row ns row in
      (λ j. cond (eqb (none j) 0) i 0 + number_of (take (none j) (drop (i * none j) (raw_numbers ns).offsets)))
      ∙ omega (arith, row_at ns i row lt))
  | inr other ↦ (
      let some : eqb (form ns) 0 ≡ false = ne_eqb (form ns) 0 (λ e. absurd (omega (arith, form_other ns other, (width-le (greatest ns - least ns)).0))) in
      let high = greatest-lt ns (2 ^ 24) (omega arith) small in
      (λ j. cond (some j) i 0 + number_of (spelled_offset ns i lt j))
      ∙ ap (λ m. 0 + m)
      (number_of-low_bytes (form ns) (get_or ns i 0 - least ns) (omega (arith, form-le ns)) (omega (arith, small i 0 lt)) (offset-fits ns i other high lt))
      ∙ omega arith)
]

-- the fields of numbers say them
pub docs_again : (ns : List ℕ) → All (λ n. n < 2 ^ 24) ns → raw_docs (length ns) (raw_numbers ns) ≡ ns
unfolding raw_docs
docs_again ns small =
    same_lists _ ns (length-map-range_with_len (λ i. least ns + offset_at (raw_numbers ns) i) 0 (length ns)) (λ i d lt.
    let under : i < length ns = omega (arith, lt, length-map-range_with_len (λ i. least ns + offset_at (raw_numbers ns) i) 0 (length ns)) in
    get_or-map-range_with_len (λ k. least ns + offset_at (raw_numbers ns) k) 0 (length ns) i i d under (omega arith)
    ∙ ap (λ m. least ns + m) (offset_is ns i small under)
    ∙ omega (arith, least-le ns i under)
    ∙ get_or_default ns i 0 d under)

pub raw_numbers_are : (ns : List ℕ) → 0 < length ns → All (λ n. n < 2 ^ 24) ns → AreRawNumbers (length ns) (raw_numbers ns)
raw_numbers_are ns some small = record {
  narrow = form-le ns;
  low = omega (arith, least-le ns 0 some, small 0 0 some);
  sized = length-flat_map spell ns ∙ sum_same (λ n. length (spell n)) (form ns) ns (λ n. length-low_bytes (form ns) (n - least ns) (omega (arith, form-le ns)));
  bytes = AreBytes-flat_map spell ns (λ n. AreBytes-low_bytes (form ns) (n - least ns));
}
  where
    spell : ℕ → List ℕ
    spell n = low_bytes (form ns) (n - least ns)

-- ---- the spelling of the numbers that fields say

-- the bytes of number i less the least
chunk-is : (count : ℕ) (r : RawNumbers) → AreRawNumbers count r → (i : ℕ) → i < count
    → low_bytes r.width (offset_at r i) ≡ take r.width (drop (i * r.width) r.offsets)
chunk-is count r h i lt = elim (cases_eq r.width 0) [
  | inl none ↦ ap (λ w. low_bytes w (offset_at r i)) none ∙ ap (λ w. take w (drop (i * r.width) r.offsets)) (sym none)
  | inr some ↦ (
      let chunk = take r.width (drop (i * r.width) r.offsets) in
      let long : length chunk ≡ r.width =
      omega (arith, length-take r.width (drop (i * r.width) r.offsets), length-drop (i * r.width) r.offsets, h.sized, mul-le-mul_right r.width (next i lt)) in
      let small : AreBytes chunk =
      All-take (λ (x : ℕ). x < 256) r.width (drop (i * r.width) r.offsets) (All-drop (λ (x : ℕ). x < 256) (i * r.width) r.offsets h.bytes) in
      (λ j. low_bytes r.width (cond (ne_eqb r.width 0 some j) i 0 + number_of chunk)) ∙ ap (low_bytes r.width) (omega arith)
      ∙ low_bytes-number_of r.width chunk (omega (arith, h.narrow)) long small)
]
  where
    next : (i : ℕ) → i < count → i + 1 ≤ count
    next i lt = omega arith

-- where the form and the least are the fields', the offsets are too
pub numbers_again : (count : ℕ) (r : RawNumbers) → AreRawNumbers count r → form (raw_docs count r) ≡ r.width → least (raw_docs count r) ≡ r.least
    → raw_numbers (raw_docs count r) ≡ r
unfolding raw_docs
numbers_again count r h is_form is_least =
    let ns = raw_docs count r in
    let offsets : flat_map (λ n. low_bytes r.width (n - r.least)) ns ≡ r.offsets =
    flat_map-map-range (λ n. low_bytes r.width (n - r.least)) (λ i. r.least + offset_at r i) count
    ∙ flat_map_agree _ (λ i. take r.width (drop (i * r.width) r.offsets)) 0 count (λ i low high.
    ap (low_bytes r.width) (less r.least (offset_at r i)) ∙ chunk-is count r h i (omega arith))
    ∙ chunks_joined r.width count r.offsets h.sized in
    let spelled : (raw_numbers ns).offsets ≡ r.offsets = (λ j. flat_map (λ n. low_bytes (is_form j) (n - is_least j)) ns) ∙ offsets in
    (λ j. record { width = is_form j; least = is_least j; offsets = spelled j })
  where
    less : (a b : ℕ) → (a + b) - a ≡ b
    less a b = omega arith

-- ---- no bytes begin with the fields of two lists of numbers

pub numbers_front : (count : ℕ) (r s : RawNumbers) (x y : List ℕ) → AreRawNumbers count r → AreRawNumbers count s → numbers_bytes r ++ x ≡ numbers_bytes s ++ y
    → (r ≡ s) × (x ≡ y)
numbers_front count r s x y hr hs e =
    let head : r.width ≡ s.width = cc in
    let tail : (vint r.least ++ r.offsets) ++ x ≡ (vint s.least ++ s.offsets) ++ y = cc in
    let front = vint_front r.least s.least (r.offsets ++ x) (s.offsets ++ y) (omega (arith, hr.low)) (omega (arith, hs.low))
    (sym (append_assoc (vint r.least) r.offsets x) ∙ tail ∙ append_assoc (vint s.least) s.offsets y) in
    let back = split_same r.offsets s.offsets x y (hr.sized ∙ ap (λ w. count * w) head ∙ sym hs.sized) front.1 in
    ((λ j. record { width = head j; least = front.0 j; offsets = back.0 j }), back.1)
