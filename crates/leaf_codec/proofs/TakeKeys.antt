-- The parts of keys, taken from the front of their bytes, are those that the bytes spell.
use Rattle.std.proofs.Common.{◌≡◌, ◌<◌, ◌≤◌, ◌+◌, ◌-◌, ℕ, List, [], ◌∷◌, ◌++◌, length, take, drop, refl, sym, ap, subst, ◌∙◌, arith}
use Rattle.std.proofs.Common.{ltb, inl, inr, length-append, take_all, length-drop, take_at, drop_at, take-append-drop, append_assoc}
use Rattle.std.proofs.lemmas.List.Elements.{All-take, All-drop}
use Rattle.leaf_codec.specs.Words.{AreBytes}
use Rattle.leaf_codec.proofs.CanonicalNumbers.{has_words}
use Rattle.std.proofs.lemmas.Bool.{cases_lt, lt-ltb, le-ltb, cond-true, cond-false}
use Rattle.leaf_codec.specs.Spelling.{sorted_bytes}
use Rattle.leaf_codec.specs.Raw.{RawKeys, AreRawKeys, MaySort, start_of, sorted_raw, keys_bytes}
use Rattle.leaf_codec.proofs.SortedBytes.{sorted_front}
use Rattle.byte_cursor.proofs.Lists.{split_same}

pub lengths_same : (D count : ℕ) (r : RawKeys) (b lengths rest : List ℕ) → AreRawKeys D count r → length lengths ≡ D → b ≡ lengths ++ rest → b ≡ keys_bytes D r
    → (lengths ≡ r.lengths) × (rest ≡ r.prefixes ++ (sorted_raw D r.sorted r.bytes ++ r.rests))
lengths_same D count r b lengths rest h long is e = split_same lengths r.lengths rest _ (long ∙ sym h.dims) (sym is ∙ e)

pub prefixes_same : (D count n : ℕ) (r : RawKeys) (lengths prefixes rest left : List ℕ) → AreRawKeys D count r → lengths ≡ r.lengths
    → n ≡ start_of lengths (length lengths) → length prefixes ≡ n
    → rest ≡ prefixes ++ left → rest ≡ r.prefixes ++ (sorted_raw D r.sorted r.bytes ++ r.rests)
    → (prefixes ≡ r.prefixes) × (left ≡ sorted_raw D r.sorted r.bytes ++ r.rests)
prefixes_same D count n r lengths prefixes rest left h same total long is e =
    split_same prefixes r.prefixes left _ (long ∙ total_is D count n r lengths h same total) (sym is ∙ e)
  where
    total_is : (D count n : ℕ) (r : RawKeys) (lengths : List ℕ) → AreRawKeys D count r → lengths ≡ r.lengths → n ≡ start_of lengths (length lengths)
        → n ≡ length r.prefixes
    total_is D count n r lengths h same total = total ∙ (λ i. start_of (same i) (length (same i))) ∙ ap (start_of r.lengths) h.dims ∙ sym h.total

pub total_is : (D count n : ℕ) (r : RawKeys) (lengths : List ℕ) → AreRawKeys D count r → lengths ≡ r.lengths → n ≡ start_of lengths (length lengths)
    → n ≡ length r.prefixes
total_is D count n r lengths h same total = total ∙ (λ i. start_of (same i) (length (same i))) ∙ ap (start_of r.lengths) h.dims ∙ sym h.total

one : (a b : ℕ) (x y : List ℕ) → a ∷ x ≡ b ∷ y → (a ≡ b) × (x ≡ y)
one a b x y e = (cc, cc)

raw_some : (D s : ℕ) (bs x : List ℕ) → s < D → sorted_raw D s bs ++ x ≡ s ∷ (sorted_bytes bs ++ x)
raw_some D s bs x lt = ap (λ (t : List ℕ). t ++ x) (cond-true (ltb s D) (s ∷ sorted_bytes bs) [] (lt-ltb s D lt))

raw_none : (D s : ℕ) (bs x : List ℕ) → D ≤ s → sorted_raw D s bs ++ x ≡ x
raw_none D s bs x le = ap (λ (t : List ℕ). t ++ x) (cond-false (ltb s D) (s ∷ sorted_bytes bs) [] (le-ltb s D le))

-- where one dimension may be the sorted one, none is no choice
apart : (lengths : List ℕ) (s t : ℕ) → MaySort lengths s → MaySort lengths t → s < length lengths → length lengths ≤ t → 1 ≤ 0
apart lengths s t hs ht lt le =
    omega (arith, hs.moves lt, ht.still (omega (arith, ht.within, le)) s 0 lt)

pub sorts_same : (lengths : List ℕ) (s t : ℕ) (x y bs cs : List ℕ) → MaySort lengths s → MaySort lengths t → length bs ≡ length cs
    → sorted_raw (length lengths) s bs ++ x ≡ sorted_raw (length lengths) t cs ++ y → (s ≡ t) × (x ≡ y) × (s < length lengths → bs ≡ cs)
sorts_same lengths s t x y bs cs hs ht long e = elim (cases_lt s (length lengths)) [
  | inl some ↦ elim (cases_lt t (length lengths)) [
    | inl other ↦
        let is =
        one s t (sorted_bytes bs ++ x) (sorted_bytes cs ++ y) (sym (raw_some (length lengths) s bs x some) ∙ e ∙ raw_some (length lengths) t cs y other) in
        let f = sorted_front bs cs x y long is.1 in
        (is.0, f.1, λ _. f.0)
    | inr none ↦ absurd (omega (arith, apart lengths s t hs ht some none))
  ]
  | inr none ↦ elim (cases_lt t (length lengths)) [
    | inl other ↦ absurd (omega (arith, apart lengths t s ht hs other none))
    | inr both ↦ (
      omega (arith, hs.within, ht.within, none, both),
      sym (raw_none (length lengths) s bs x none) ∙ e ∙ raw_none (length lengths) t cs y both,
      λ lt. absurd (omega (arith, lt, none)),
    )
  ]
]

pub to_end : (leaf : List ℕ) (at : ℕ) → take (length leaf - at) (drop at leaf) ≡ drop at leaf
to_end leaf at = take_all (length leaf - at) (drop at leaf) (omega (arith, length-drop at leaf))

-- the words before the rests, to the end of the leaf
pub record LastWords (leaf rests : List ℕ) : Type 0 where
  pub long : 4 ≤ length (take (length leaf - (length leaf - length rests - 4)) (drop (length leaf - length rests - 4) leaf))
  pub words : drop 4 (take (length leaf - (length leaf - length rests - 4)) (drop (length leaf - length rests - 4) leaf)) ≡ rests
  pub bytes : AreBytes (take (length leaf - (length leaf - length rests - 4)) (drop (length leaf - length rests - 4) leaf))

pub last_words : (leaf front rests : List ℕ) → leaf ≡ front ++ rests → 4 ≤ length front → AreBytes leaf → LastWords leaf rests
last_words leaf front rests is four bytes =
    let n = length rests in
    let w = has_words leaf front rests n is four (omega arith) in
    let small = λ (x : ℕ). x < 256 in
    let all : length leaf - n + n ≡ length leaf = omega (arith, ap length is, length-append front rests) in
    let same : take (length leaf - n + n - (length leaf - n - 4)) (drop (length leaf - n - 4) leaf)
    ≡ take (length leaf - (length leaf - n - 4)) (drop (length leaf - n - 4) leaf) =
    ap (λ k. take (k - (length leaf - n - 4)) (drop (length leaf - n - 4) leaf)) all in
    record {
      long = omega (arith, ap length (sym same), w.long);
      words = ap (drop 4) (sym same) ∙ w.words ∙ take_all n rests (omega arith);
      bytes = All-take small (length leaf - (length leaf - n - 4)) (drop (length leaf - n - 4) leaf) (All-drop small (length leaf - n - 4) leaf bytes);
    }

-- the bytes of a part
pub bytes_within : (b front part tail : List ℕ) → b ≡ front ++ (part ++ tail) → AreBytes b → AreBytes part
bytes_within b front part tail is bytes =
    subst (λ (t : List ℕ). AreBytes t)
    (ap (λ (t : List ℕ). take (length part) (drop (length front) t)) is ∙ ap (take (length part)) (drop_at front (part ++ tail) (length front) refl)
    ∙ take_at part tail (length part) refl)
    (All-take (λ (x : ℕ). x < 256) (length part) (drop (length front) b) (All-drop (λ (x : ℕ). x < 256) (length front) b bytes))

pub leaf_front : (leaf lengths prefixes sorted rests : List ℕ) (at : ℕ) → drop at leaf ≡ lengths ++ (prefixes ++ (sorted ++ rests))
    → leaf ≡ (take at leaf ++ (lengths ++ (prefixes ++ sorted))) ++ rests
leaf_front leaf lengths prefixes sorted rests at is =
    sym (take-append-drop at leaf) ∙ ap (λ (t : List ℕ). take at leaf ++ t) (is
    ∙ ap (λ (t : List ℕ). lengths ++ t) (sym (append_assoc prefixes sorted rests)) ∙ sym (append_assoc lengths (prefixes ++ sorted) rests))
    ∙ sym (append_assoc (take at leaf) (lengths ++ (prefixes ++ sorted)) rests)
