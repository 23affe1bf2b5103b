-- An offset that is read from words of four bytes, or as its place in a row, is the one that the bytes spell.
use Rattle.std.proofs.Common.{◌≡◌, ◌≢◌, ◌<◌, ◌≤◌, ◌+◌, ◌-◌, ◌*◌, ◌^◌, ℕ, zero, suc, min, max, Bool, below_more, ◌⊎◌, true, false, List, [], ◌∷◌, length}
use Rattle.std.proofs.Common.{get_or, take, drop, refl, sym, ap, ◌∙◌, arith, cond, eqb, inl, inr, length-take, length-drop, mul-le-mul_right, drop-drop}
use Rattle.std.specs.Prelude.{bit_and, All}
use Rattle.std.specs.List.{fold}
use Rattle.std.proofs.lemmas.Bool.{cases_eq, cases_lt, eq-eqb, eqb-true, ne_eqb, false≢true}
use Rattle.std.proofs.lemmas.List.Elements.{All-take, All-drop}
use Rattle.std.proofs.lemmas.List.FromFn.{get_or-map-range_with_len, length-map-range_with_len}
use Rattle.leaf_codec.specs.Spelling.{least, greatest, is_row}
use Rattle.leaf_codec.specs.Words.{number_of, AreBytes}
use Rattle.leaf_codec.specs.Raw.{RawNumbers, AreRawNumbers, offset_at, raw_docs}
use Rattle.leaf_codec.specs.Views.{IsSpan, AreBounds}
use Rattle.leaf_codec.proofs.Bytes.{word_masked, number_of-lt}
use Rattle.leaf_codec.proofs.NumbersLemmas.{least-le, le-greatest, row_true, row_false}
use Rattle.std.proofs.lemmas.List.{get_or_default}

-- what the fields of a number read from words are
pub record ReadsWords (count : ℕ) (r : RawNumbers) (words : List ℕ) (step mask : ℕ) : Type 0 where
  pub raw : AreRawNumbers count r
  pub long : 4 ≤ length words
  pub bytes : AreBytes words
  pub is : r.offsets ≡ drop 4 words
  pub steps : step ≡ cond (eqb r.width 0) 1 0
  pub masks : mask ≡ 256 ^ r.width - 1

-- a word before its end
pub word_within : (count w i : ℕ) (words : List ℕ) → length (drop 4 words) ≡ count * w → 4 ≤ length words → i < count → w * (i + 1) + 4 ≤ length words
word_within count w i words sized long lt = omega (arith, length-drop 4 words, sized, mul-le-mul_right w (next i count lt))
  where
    next : (i count : ℕ) → i < count → i + 1 ≤ count
    next i count lt = omega arith

stepped : (b : Bool) (i : ℕ) → i * cond b 1 0 ≡ cond b i 0
stepped true i = omega arith
stepped false i = omega arith

pub offset_read : (count : ℕ) (r : RawNumbers) (words : List ℕ) (step mask i : ℕ) → ReadsWords count r words step mask → i < count
    → i * step + bit_and (number_of (take 4 (drop (r.width * (i + 1)) words))) mask ≡ offset_at r i
offset_read count r words step mask i h lt =
    let narrow = h.raw.narrow in
    let sized : length (drop 4 words) ≡ count * r.width = ap length (sym h.is) ∙ h.raw.sized in
    let at : r.width * (i + 1) + (4 - r.width) ≡ 4 + i * r.width = omega arith in
    let chunk : drop (r.width * (i + 1) + (4 - r.width)) words ≡ drop (i * r.width) r.offsets =
    ap (λ n. drop n words) at ∙ sym (drop-drop (i * r.width) 4 words) ∙ ap (drop (i * r.width)) (sym h.is) in
    (λ j. i * h.steps j + bit_and (number_of (take 4 (drop (r.width * (i + 1)) words))) (h.masks j))
    ∙ (λ j.
    stepped (eqb r.width 0) i j + word_masked words (r.width * (i + 1)) r.width (omega arith) (word_within count r.width i words sized h.long lt) h.bytes j)
    ∙ ap (λ (t : List ℕ). cond (eqb r.width 0) i 0 + number_of (take r.width t)) chunk

-- the numbers of a row are their places
pub offset_row : (r : RawNumbers) (i : ℕ) → r.width ≡ 0 → offset_at r i ≡ i
offset_row r i none =
    let row : cond (eqb r.width 0) i 0 ≡ i = ap (λ (b : Bool). cond b i 0) (eq-eqb r.width 0 none) in
    let empty : number_of (take r.width (drop (i * r.width) r.offsets)) ≡ 0 = ap (λ w. number_of (take w (drop (i * r.width) r.offsets))) none in
    omega (arith, row, empty)

pub offset_at-lt : (count : ℕ) (r : RawNumbers) (i : ℕ) → AreRawNumbers count r → count ≤ 500 → i < count → offset_at r i < 2 ^ 24
offset_at-lt count r i h few lt =
    let chunk = take r.width (drop (i * r.width) r.offsets) in
    let small : AreBytes chunk =
    All-take (λ (x : ℕ). x < 256) r.width (drop (i * r.width) r.offsets) (All-drop (λ (x : ℕ). x < 256) (i * r.width) r.offsets h.bytes) in
    elim (cases_eq r.width 0) [
      | inl none ↦ (
          let row : cond (eqb r.width 0) i 0 ≡ i = ap (λ (b : Bool). cond b i 0) (eq-eqb r.width 0 none) in
          let empty : number_of chunk ≡ 0 = ap (λ w. number_of (take w (drop (i * r.width) r.offsets))) none in
          omega (arith, row, empty))
      | inr some ↦ (
          let row : cond (eqb r.width 0) i 0 ≡ 0 = ap (λ (b : Bool). cond b i 0) (ne_eqb r.width 0 some) in
          omega (
            arith,
            row,
            number_of-lt chunk small,
            short (length chunk) r.width h.narrow (omega (arith, length-take r.width (drop (i * r.width) r.offsets))),
          ))
    ]
  where
    short : (k w : ℕ) → w ≤ 3 → k ≤ w → 256 ^ k ≤ 2 ^ 24
    short zero w le under = omega arith
    short (suc zero) w le under = omega arith
    short (suc (suc zero)) w le under = omega arith
    short (suc (suc (suc zero))) w le under = omega arith
    short (suc (suc (suc (suc k)))) w le under = absurd (omega arith)

-- the same without a step, where the numbers are no row
pub wide_read : (count : ℕ) (r : RawNumbers) (words : List ℕ) (step mask i : ℕ) → ReadsWords count r words step mask → r.width ≢ 0 → i < count
    → bit_and (number_of (take 4 (drop (r.width * (i + 1)) words))) mask ≡ offset_at r i
wide_read count r words step mask i h wide lt =
    let none : step ≡ 0 = h.steps ∙ ap (λ (b : Bool). cond {A = ℕ} b 1 0) (ne_eqb r.width 0 wide) in
    let still : i * step ≡ 0 = ap (λ n. i * n) none ∙ omega arith in
    omega (arith, offset_read count r words step mask i h lt, still)

-- ---- the ends and the span

pub ends_one : (r : RawNumbers) (m : ℕ) → m ≡ offset_at r 0 → AreBounds 1 r m m
ends_one r m is = record {
  below = λ i lt. first i lt (λ k. m ≤ offset_at r k) (omega (arith, is));
  reached_low = (0, omega arith, sym is);
  above = λ i lt. first i lt (λ k. offset_at r k ≤ m) (omega (arith, is));
  reached_top = (0, omega arith, sym is);
}
  where
    first : (i : ℕ) → i < 1 → (P : ℕ → Type 0) → P 0 → P i
    first zero lt P h = h
    first (suc i) lt P h = absurd (omega arith)

-- a fact of one more number
one_more : (P : ℕ → Type 0) (n : ℕ) → ((i : ℕ) → i < n → P i) → P n → (i : ℕ) → i < n + 1 → P i
one_more P n below here i lt = below_more P n below here i lt

pub ends_more : (n : ℕ) (r : RawNumbers) (low top m low' top' : ℕ) → AreBounds n r low top → m ≡ offset_at r n → low' ≡ min low m → top' ≡ max top m
    → AreBounds (n + 1) r low' top'
ends_more n r low top m low' top' e is low_is top_is = record {
  below = one_more (λ i. low' ≤ offset_at r i) n (λ i lt. omega (arith, e.below i lt)) (omega arith);
  reached_low = elim (cases_lt m low) [
    | inl less ↦ (n, omega arith, omega arith)
    | inr more ↦ (e.reached_low.0, omega (arith, e.reached_low.1), omega (arith, e.reached_low.2))
  ];
  above = one_more (λ i. offset_at r i ≤ top') n (λ i lt. omega (arith, e.above i lt)) (omega arith);
  reached_top = elim (cases_lt top m) [
    | inl less ↦ (n, omega arith, omega arith)
    | inr more ↦ (e.reached_top.0, omega (arith, e.reached_top.1), omega (arith, e.reached_top.2))
  ];
}

pub span_of : (n : ℕ) (r : RawNumbers) (low top : ℕ) (row : Bool) → AreBounds n r low top
    → (row ≡ true → (i : ℕ) → i < n → offset_at r i ≡ i) → (row ≡ false → (i : ℕ) × (i < n) × (offset_at r i ≢ i)) → IsSpan n r top (eqb low 0) row
span_of n r low top row e each other = record {
  above = e.above;
  reached = inr e.reached_top;
  some_zero = λ is. (e.reached_low.0, e.reached_low.1, e.reached_low.2 ∙ eqb-true low 0 is);
  no_zero = λ is i lt nought.
      let none : low ≡ 0 = omega (arith, e.below i lt, nought) in
      false≢true (sym is ∙ eq-eqb low 0 none);
  in_row = each;
  out_of_row = other;
}

-- ---- what the span says of the numbers

pub length-raw_docs : (count : ℕ) (r : RawNumbers) → length (raw_docs count r) ≡ count
unfolding raw_docs
length-raw_docs count r = length-map-range_with_len (λ i. r.least + offset_at r i) 0 count

pub get_or-raw_docs : (count : ℕ) (r : RawNumbers) (i d : ℕ) → i < count → get_or (raw_docs count r) i d ≡ r.least + offset_at r i
unfolding raw_docs
get_or-raw_docs count r i d lt = get_or-map-range_with_len (λ k. r.least + offset_at r k) 0 count i i d lt (omega arith)

fold_min-attained : (m : ℕ) (ns : List ℕ) → (fold min m ns ≡ m) ⊎ ((i : ℕ) × (i < length ns) × (get_or ns i 0 ≡ fold min m ns))
fold_min-attained m [] = inl refl
fold_min-attained m (n ∷ ns) = elim (fold_min-attained (min m n) ns) [
  | inl start ↦ elim (cases_lt n m) [
    | inl less ↦ inr (0, omega arith, omega (arith, start))
    | inr more ↦ inl (omega (arith, start))
  ]
  | inr later ↦ inr (suc later.0, omega (arith, later.1), later.2)
]

least-attained : (ns : List ℕ) → 0 < length ns → (i : ℕ) × (i < length ns) × (get_or ns i 0 ≡ least ns)
least-attained [] some = absurd (omega arith)
least-attained (n ∷ ns) some = elim (fold_min-attained n ns) [
  | inl start ↦ (0, some, sym start)
  | inr later ↦ (suc later.0, omega (arith, later.1), later.2)
]

fold_max-under : (k m : ℕ) (ns : List ℕ) → k ≤ m → ((i : ℕ) → i < length ns → get_or ns i 0 ≤ m) → fold max k ns ≤ m
fold_max-under k m [] low h = low
fold_max-under k m (n ∷ ns) low h = fold_max-under (max k n) m ns (omega (arith, h 0 (omega arith))) (λ i lt. h (suc i) (omega arith))

-- the least number is the field exactly where some number is no greater
pub least_from : (count : ℕ) (r : RawNumbers) (i : ℕ) → i < count → offset_at r i ≡ 0 → least (raw_docs count r) ≡ r.least
least_from count r i lt nought =
    let ns = raw_docs count r in
    let long = length-raw_docs count r in
    let some = least-attained ns (omega (arith, long)) in
    let low : r.least ≤ least ns = omega (arith, some.2, get_or-raw_docs count r some.0 0 (omega (arith, some.1, long))) in
    omega (arith, low, least-le ns i (omega (arith, long)), get_or-raw_docs count r i 0 lt, nought)

pub least_not : (count : ℕ) (r : RawNumbers) → 0 < count → ((i : ℕ) → i < count → offset_at r i ≢ 0) → least (raw_docs count r) ≢ r.least
least_not count r pos none is =
    let ns = raw_docs count r in
    let long = length-raw_docs count r in
    let some = least-attained ns (omega (arith, long)) in
    let under : some.0 < count = omega (arith, some.1, long) in
    none some.0 under (omega (arith, some.2, get_or-raw_docs count r some.0 0 under, is))

pub greatest_is : (count : ℕ) (r : RawNumbers) (top : ℕ) (z w : Bool) → 0 < count → IsSpan count r top z w → greatest (raw_docs count r) ≡ r.least + top
greatest_is count r top z w pos s =
    let ns = raw_docs count r in
    let long = length-raw_docs count r in
    let high : greatest ns ≤ r.least + top = fold_max-under 0 (r.least + top) ns (omega arith) (λ i lt.
    let under : i < count = omega (arith, lt, long) in
    omega (arith, get_or-raw_docs count r i 0 under, s.above i under)) in
    elim s.reached [
      | inl nothing ↦ omega (arith, high, at_least count r 0 pos, nothing)
      | inr some ↦ omega (arith, high, at_least count r some.0 some.1, some.2)
    ]
  where
    at_least : (count : ℕ) (r : RawNumbers) (i : ℕ) → i < count → r.least + offset_at r i ≤ greatest (raw_docs count r)
    at_least count r i lt = omega (arith, le-greatest (raw_docs count r) i (omega (arith, length-raw_docs count r)), get_or-raw_docs count r i 0 lt)

-- the numbers are small exactly where the greatest one is
pub small_from : (ns : List ℕ) (m : ℕ) → greatest ns < m → All (λ n. n < m) ns
small_from ns m h = λ i d lt. omega (arith, get_or_default ns i d 0 lt, le-greatest ns i lt)

pub greatest_small : (ns : List ℕ) (m : ℕ) → 0 < m → All (λ n. n < m) ns → greatest ns < m
greatest_small ns m pos h =
    let under : greatest ns ≤ m - 1 = fold_max-under 0 (m - 1) ns (omega arith) (λ i lt. omega (arith, h i 0 lt)) in
    omega arith

-- numbers that are in a row
pub row_from : (count : ℕ) (r : RawNumbers) → 0 < count → ((i : ℕ) → i < count → offset_at r i ≡ i)
    → (is_row (raw_docs count r) ≡ true) × (least (raw_docs count r) ≡ r.least)
row_from count r pos each =
    let ns = raw_docs count r in
    let long = length-raw_docs count r in
    let low = least_from count r 0 pos (each 0 pos) in (
      row_true r.least ns (sym low) (λ k lt.
          let under : k < count = omega (arith, lt, long) in
          get_or-raw_docs count r k 0 under ∙ ap (λ n. r.least + n) (each k under)),
      low,
    )

pub row_not : (count : ℕ) (r : RawNumbers) (i : ℕ) → i < count → offset_at r i ≢ i → least (raw_docs count r) ≡ r.least → is_row (raw_docs count r) ≡ false
row_not count r i lt apart low =
    row_false (raw_docs count r) i (omega (arith, length-raw_docs count r)) (λ e. apart (omega (arith, e, low, get_or-raw_docs count r i 0 lt)))

-- the offsets of a row are the places
pub row_offsets : (r : RawNumbers) → r.width ≡ 0 → (i : ℕ) → offset_at r i ≡ i
row_offsets r none i =
    (λ j. cond (eqb (none j) 0) i 0 + number_of (take (none j) (drop (i * none j) r.offsets))) ∙ omega arith
