-- Whether the fields of numbers are canonical, and the words of numbers in a leaf.
use Rattle.std.proofs.Common.{◌≡◌, ◌≢◌, ◌<◌, ◌≤◌, ◌+◌, ◌-◌, ◌^◌, ℕ, Bool, true, false, List, ◌++◌, length, get_or, take, drop, refl, sym}
use Rattle.std.proofs.Common.{ap, ◌∙◌, arith, inl, inr, length-take, length-drop, length-append, drop-drop, drop_at, take-append-drop}
use Rattle.std.proofs.lemmas.List.Elements.{All-from_get_or}
use Rattle.leaf_codec.specs.Spelling.{least, greatest, form, width}
use Rattle.leaf_codec.specs.Words.{AreBytes}
use Rattle.leaf_codec.specs.Raw.{RawNumbers, AreRawNumbers, offset_at, raw_docs}
use Rattle.leaf_codec.specs.Views.{IsSpan, AreCanonNumbers}
use Rattle.leaf_codec.proofs.NumbersLemmas.{form_row, form_other}
use Rattle.std.proofs.lemmas.List.{drop-take}
use Rattle.leaf_codec.proofs.ReadNumbers.{offset_at-lt, length-raw_docs, get_or-raw_docs, least_from, least_not}
use Rattle.leaf_codec.proofs.ReadNumbers.{greatest_is, small_from, greatest_small, row_from, row_not, row_offsets}

-- ---- whether the fields are canonical

pub row_canonical : (count : ℕ) (r : RawNumbers) → r.width ≡ 0 → 0 < count → r.least + offset_at r (count - 1) < 2 ^ 24 → AreCanonNumbers count r
row_canonical count r none pos low =
    let row = row_from count r pos (λ i lt. row_offsets r none i) in
    record {
      form_is = form_row (raw_docs count r) row.0 ∙ sym none;
      least_is = row.1;
      small = λ i d lt.
          let under : i < count = omega (arith, lt, length-raw_docs count r) in
          omega (arith, get_or-raw_docs count r i d under, row_offsets r none i, row_offsets r none (count - 1));
    }

pub canonical_last : (count : ℕ) (r : RawNumbers) → 0 < count → AreCanonNumbers count r → r.least + offset_at r (count - 1) < 2 ^ 24
canonical_last count r pos h =
    let last : count - 1 < count = omega arith in
    omega (arith, h.small (count - 1) 0 (omega (arith, length-raw_docs count r)), get_or-raw_docs count r (count - 1) 0 last)

-- where a form of 1 to 3 bytes isn't due
pub refuses_row : (count : ℕ) (r : RawNumbers) (top : ℕ) (z w : Bool) → 0 < count → IsSpan count r top z w → r.width ≢ 0 → w ≡ true → AreCanonNumbers count r
    → ⊥
refuses_row count r top z w pos s some row h =
    some (sym h.form_is ∙ form_row (raw_docs count r) (row_from count r pos (s.in_row row)).0)

pub refuses_least : (count : ℕ) (r : RawNumbers) (top : ℕ) (z w : Bool) → 0 < count → IsSpan count r top z w → z ≡ false → AreCanonNumbers count r → ⊥
refuses_least count r top z w pos s none h = least_not count r pos (s.no_zero none) h.least_is

pub refuses_high : (count : ℕ) (r : RawNumbers) (top : ℕ) (z w : Bool) → 0 < count → IsSpan count r top z w → 2 ^ 24 ≤ r.least + top → AreCanonNumbers count r
    → ⊥
refuses_high count r top z w pos s high h =
    absurd (omega (arith, high, greatest_is count r top z w pos s, greatest_small (raw_docs count r) (2 ^ 24) (omega arith) h.small))

-- the form of numbers that are no row
form_is : (count : ℕ) (r : RawNumbers) (top : ℕ) (z w : Bool) → 0 < count → IsSpan count r top z w → z ≡ true → w ≡ false → form (raw_docs count r) ≡ width top
form_is count r top z w pos s found other =
    let a = s.some_zero found in
    let low = least_from count r a.0 a.1 a.2 in
    let b = s.out_of_row other in
    let span : greatest (raw_docs count r) - least (raw_docs count r) ≡ top = omega (arith, low, greatest_is count r top z w pos s) in
    form_other (raw_docs count r) (row_not count r b.0 b.1 b.2 low) ∙ ap width span

pub takes_width : (count : ℕ) (r : RawNumbers) (top : ℕ) (z w : Bool) → 0 < count → IsSpan count r top z w → z ≡ true → w ≡ false → r.least + top < 2 ^ 24
    → r.width ≡ width top → AreCanonNumbers count r
takes_width count r top z w pos s found other low is =
    let a = s.some_zero found in
    record {
      form_is = form_is count r top z w pos s found other ∙ sym is;
      least_is = least_from count r a.0 a.1 a.2;
      small = small_from (raw_docs count r) (2 ^ 24) (omega (arith, low, greatest_is count r top z w pos s));
    }

pub width_of : (count : ℕ) (r : RawNumbers) (top : ℕ) (z w : Bool) → 0 < count → IsSpan count r top z w → z ≡ true → w ≡ false → AreCanonNumbers count r
    → r.width ≡ width top
width_of count r top z w pos s found other h = sym h.form_is ∙ form_is count r top z w pos s found other

-- the greatest is no greater than the offsets
pub span-lt : (count : ℕ) (r : RawNumbers) (top : ℕ) (z w : Bool) → AreRawNumbers count r → count ≤ 500 → IsSpan count r top z w → top < 2 ^ 24
span-lt count r top z w h few s = elim s.reached [
  | inl nothing ↦ omega (arith, nothing)
  | inr some ↦ omega (arith, some.2, offset_at-lt count r some.0 h few some.1)
]

-- ---- the words in the leaf

-- what follows a front begins at s; the words begin four bytes before and have m bytes more
pub record HasWords (leaf head rest : List ℕ) (m s : ℕ) : Type 0 where
  pub four : 4 ≤ s
  pub long : length (take (s + m - (s - 4)) (drop (s - 4) leaf)) ≡ 4 + m
  pub words : drop 4 (take (s + m - (s - 4)) (drop (s - 4) leaf)) ≡ take m rest
  pub within : s + m ≤ length leaf
  pub parts : leaf ≡ head ++ (take m rest ++ drop (s + m) leaf)

pub has_words : (leaf head rest : List ℕ) (m : ℕ) → leaf ≡ head ++ rest → 4 ≤ length head → m ≤ length rest
    → HasWords leaf head rest m (length leaf - length rest)
has_words leaf head rest m is four fits =
    let s = length leaf - length rest in
    let all : length leaf ≡ length head + length rest = ap length is ∙ length-append head rest in
    let start : s ≡ length head = omega (arith, all) in
    let many : s + m - (s - 4) ≡ 4 + m = omega (arith, start) in
    let back : drop s leaf ≡ rest = (λ i. drop (start i) (is i)) ∙ drop_at head rest (length head) refl in
    let four_more : (s - 4) + 4 ≡ s = omega (arith, start) in
    let behind : drop (s + m) leaf ≡ drop m rest = sym (drop-drop m s leaf) ∙ ap (drop m) back in
    record {
      four = omega (arith, start);
      long = omega (arith, length-take (s + m - (s - 4)) (drop (s - 4) leaf), length-drop (s - 4) leaf, all, start);
      words = ap (λ n. drop 4 (take n (drop (s - 4) leaf))) many
          ∙ drop-take 4 m (drop (s - 4) leaf)
          ∙ ap (take m) (drop-drop 4 (s - 4) leaf ∙ ap (λ n. drop n leaf) four_more ∙ back);
      within = omega (arith, all, start);
      parts = is ∙ ap (λ (t : List ℕ). head ++ t) (sym (take-append-drop m rest) ∙ ap (λ (t : List ℕ). take m rest ++ t) (sym behind));
    }

pub AreBytes-from : (bs : List ℕ) → ((i : ℕ) → get_or bs i 0 < 256) → AreBytes bs
AreBytes-from bs h = All-from_get_or (λ (b : ℕ). b < 256) bs 0 (λ i lt. h i)
