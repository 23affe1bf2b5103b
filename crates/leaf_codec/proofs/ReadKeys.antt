-- A coordinate that is read from words of four bytes is the one that the parts of its key spell.
use Rattle.std.proofs.Common.{◌≡◌, ◌<◌, ◌≤◌, ◌+◌, ◌-◌, ◌*◌, ◌^◌, ℕ, zero, suc, Bool, true, false, List, [], ◌∷◌, ◌++◌, length, get_or, take, drop}
use Rattle.std.proofs.Common.{refl, sym, ap, ◌∙◌, arith, cond, eqb, inl, inr, length-take, length-drop, length-append, mul-le-mul_right, drop-drop}
use Rattle.std.specs.Prelude.{bit_and, All}
use Rattle.std.proofs.lemmas.Bool.{cases_Bool, cases_eq, eqb-true, eq-eqb}
use Rattle.std.proofs.lemmas.List.Elements.{All-take, All-drop, All-append, All-nil, All-cons}
use Rattle.leaf_codec.specs.Dimensions.{told_of}
use Rattle.leaf_codec.specs.Words.{number_of, AreBytes, coordinate}
use Rattle.std.specs.Prelude.{ℤ, FitsSigned}
use Rattle.std.specs.Int.{w32, to_be_bytes}
use Rattle.std.proofs.Common.{to_z, of_z, to_z-of_z}
use Rattle.point_codec.specs.Keys.{key}
use Rattle.leaf_codec.specs.Raw.{RawKeys, AreRawKeys, MaySort, start_of, gap_of, place_of, key_at}
use Rattle.leaf_codec.specs.declared.read_parts.Parts.{Parts}
use Rattle.leaf_codec.specs.declared.read_parts.Slots.{Slots}
use Rattle.leaf_codec.specs.Views.{raw_keys_of, IsParts, AreSlots}
use Rattle.std.proofs.lemmas.List.{get_or-take}
use Rattle.leaf_codec.proofs.Bytes.{number_of-append, number_of-lt, word_masked, coordinate-fits, key-coordinate, to_be-number_of}
use Rattle.leaf_codec.proofs.Chunks.{place, place_more}

pub place_le : (wide : ℕ → ℕ) (m n : ℕ) → m ≤ n → place wide m ≤ place wide n
place_le wide m zero le =
    let none : m ≡ 0 = omega arith in
    rw none (omega arith)
place_le wide m (suc n) le = elim (cases_eq m (suc n)) [
  | inl same ↦ rw same (omega arith)
  | inr apart ↦
      let next : suc n ≡ n + 1 = omega arith in
      omega (arith, place_le wide m n (omega arith), place_more wide n, ap (place wide) next)
]

pub told_le : (lengths : List ℕ) (s d : ℕ) → All (λ n. n ≤ 4) lengths → MaySort lengths s → d < length lengths → told_of lengths s d ≤ 4
told_le lengths s d short sorts lt = elim (cases_Bool (eqb d s)) [
  | inl same ↦
      let is = eqb-true d s same in
      let moves : get_or lengths d 0 < 4 = rw is (sorts.moves (omega (arith, is, lt))) in
      omega (arith, ap (λ (b : Bool). flag b) same, moves)
  | inr apart ↦ omega (arith, ap (λ (b : Bool). flag b) apart, short d 0 lt)
]
  where
    flag : Bool → ℕ
    flag b = cond b 1 0

joined : (same : Bool) (a c : List ℕ) (b w gap : ℕ) → length c ≡ gap → cond same 1 0 + gap ≡ w
    → number_of (a ++ (cond same (b ∷ []) [] ++ c)) ≡ number_of a * 256 ^ w + b * cond same (256 ^ gap) 0 + number_of c
joined true a c b w gap long wide =
    let all : suc (length c) ≡ w = omega (arith, long, wide) in
    number_of-append a (b ∷ c) ∙ (λ i. number_of a * 256 ^ all i + (b * 256 ^ long i + number_of c)) ∙ omega arith
joined false a c b w gap long wide =
    let all : length c ≡ w = omega (arith, long, wide) in
    number_of-append a c ∙ (λ i. number_of a * 256 ^ all i + number_of c) ∙ omega arith

-- the three parts of a key
pub record KeyParts (D count : ℕ) (r : RawKeys) (i d : ℕ) : Type 0 where
  pub told : told_of r.lengths r.sorted d ≤ 4
  pub front : length (take (get_or r.lengths d 0) (drop (start_of r.lengths d) r.prefixes)) ≡ get_or r.lengths d 0
  pub back : length (take (gap_of r.lengths r.sorted d) (drop (i * place_of r.lengths r.sorted D + place_of r.lengths r.sorted d) r.rests))
      ≡ gap_of r.lengths r.sorted d
  pub ends : i * place_of r.lengths r.sorted D + place_of r.lengths r.sorted (d + 1) ≤ count * place_of r.lengths r.sorted D
  pub next : place_of r.lengths r.sorted (d + 1) ≡ place_of r.lengths r.sorted d + gap_of r.lengths r.sorted d

pub key_parts : (D count : ℕ) (r : RawKeys) (i d : ℕ) → AreRawKeys D count r → i < count → d < D → KeyParts D count r i d
key_parts D count r i d h here lt =
    let len = get_or r.lengths d 0 in
    let start = start_of r.lengths d in
    let wide = gap_of r.lengths r.sorted in
    let stride = place_of r.lengths r.sorted D in
    let at = place_of r.lengths r.sorted d in
    let after = place_more (λ e. get_or r.lengths e 0) d in
    let before = place_le (λ e. get_or r.lengths e 0) (d + 1) D (omega arith) in
    let more = place_more wide d in
    let within = place_le wide (d + 1) D (omega arith) in
    let after_it : i + 1 ≤ count = omega arith in
    let rows : (i + 1) * stride ≤ count * stride = omega (arith, mul-le-mul_right stride after_it) in
    let ends : i * stride + place_of r.lengths r.sorted (d + 1) ≤ count * stride = omega (arith, rows, within) in
    record {
      told = told_le r.lengths r.sorted d h.short h.sorts (omega (arith, lt, h.dims));
      front = omega (arith, length-take len (drop start r.prefixes), length-drop start r.prefixes, h.total, after, before);
      back = omega (arith, length-take (wide d) (drop (i * stride + at) r.rests), length-drop (i * stride + at) r.rests, h.sized, ends, more);
      ends = ends;
      next = more;
    }

-- the key as a number
pub key_number : (D count : ℕ) (r : RawKeys) (i d : ℕ) → AreRawKeys D count r → i < count → d < D
    → number_of (key_at D r i d) ≡ number_of (take (get_or r.lengths d 0) (drop (start_of r.lengths d) r.prefixes)) * 256 ^ (4 - get_or r.lengths d 0)
    + get_or r.bytes i 0 * cond (eqb d r.sorted) (256 ^ gap_of r.lengths r.sorted d) 0
    + number_of (take (gap_of r.lengths r.sorted d) (drop (i * place_of r.lengths r.sorted D + place_of r.lengths r.sorted d) r.rests))
unfolding key_at
key_number D count r i d h here lt =
    let k = key_parts D count r i d h here lt in
    joined (eqb d r.sorted) (take (get_or r.lengths d 0) (drop (start_of r.lengths d) r.prefixes))
    (take (gap_of r.lengths r.sorted d) (drop (i * place_of r.lengths r.sorted D + place_of r.lengths r.sorted d) r.rests))
    (get_or r.bytes i 0) (4 - get_or r.lengths d 0) (gap_of r.lengths r.sorted d) k.back (omega (arith, k.told))

-- the key is four bytes
pub length-key_at : (D count : ℕ) (r : RawKeys) (i d : ℕ) → AreRawKeys D count r → i < count → d < D → length (key_at D r i d) ≡ 4
unfolding key_at
length-key_at D count r i d h here lt =
    let k = key_parts D count r i d h here lt in
    let front = take (get_or r.lengths d 0) (drop (start_of r.lengths d) r.prefixes) in
    let back = take (gap_of r.lengths r.sorted d) (drop (i * place_of r.lengths r.sorted D + place_of r.lengths r.sorted d) r.rests) in
    let middle = cond (eqb d r.sorted) (get_or r.bytes i 0 ∷ []) [] in
    omega (arith, length-append front (middle ++ back), length-append middle back, flagged (eqb d r.sorted) (get_or r.bytes i 0), k.front, k.back, k.told)
  where
    flagged : (b : Bool) (n : ℕ) → length (cond b (n ∷ []) []) ≡ cond b 1 0
    flagged true n = refl
    flagged false n = refl

pub AreBytes-key_at : (D count : ℕ) (r : RawKeys) (i d : ℕ) → AreRawKeys D count r → i < count → AreBytes (key_at D r i d)
unfolding key_at
AreBytes-key_at D count r i d h here =
    let small = λ (x : ℕ). x < 256 in
    All-append small (take (get_or r.lengths d 0) (drop (start_of r.lengths d) r.prefixes)) _
    (All-take small (get_or r.lengths d 0) (drop (start_of r.lengths d) r.prefixes) (All-drop small (start_of r.lengths d) r.prefixes h.prefix_bytes))
    (All-append small (cond (eqb d r.sorted) (get_or r.bytes i 0 ∷ []) []) _
    (flagged (eqb d r.sorted))
    (All-take small (gap_of r.lengths r.sorted d) (drop (i * place_of r.lengths r.sorted D + place_of r.lengths r.sorted d) r.rests)
    (All-drop small (i * place_of r.lengths r.sorted D + place_of r.lengths r.sorted d) r.rests h.rest_bytes)))
  where
    flagged : (b : Bool) → AreBytes (cond b (get_or r.bytes i 0 ∷ []) [])
    flagged true = All-cons (λ (x : ℕ). x < 256) (get_or r.bytes i 0) [] (h.sorted_bytes i 0 (omega (arith, here, h.counted))) (All-nil (λ (x : ℕ). x < 256))
    flagged false = All-nil (λ (x : ℕ). x < 256)

-- the rest of the key, as it is read from words
pub left_read : (D count : ℕ) (r : RawKeys) (words : List ℕ) (i d : ℕ) → AreRawKeys D count r → r.rests ≡ drop 4 words → 4 ≤ length words → AreBytes words
    → i < count → d < D
    → (i * place_of r.lengths r.sorted D + place_of r.lengths r.sorted (d + 1) + 4 ≤ length words)
    × (bit_and (number_of (take 4 (drop (i * place_of r.lengths r.sorted D + place_of r.lengths r.sorted (d + 1)) words)))
    (256 ^ gap_of r.lengths r.sorted d - 1)
    ≡ number_of (take (gap_of r.lengths r.sorted d) (drop (i * place_of r.lengths r.sorted D + place_of r.lengths r.sorted d) r.rests)))
left_read D count r words i d h is long bytes here lt =
    let k = key_parts D count r i d h here lt in
    let gap = gap_of r.lengths r.sorted d in
    let row = i * place_of r.lengths r.sorted D in
    let at = row + place_of r.lengths r.sorted (d + 1) in
    let within : at + 4 ≤ length words = omega (arith, k.ends, h.sized, ap length is, length-drop 4 words, long) in
    let few : gap ≤ 4 = omega arith in
    let place : at + (4 - gap) ≡ 4 + (row + place_of r.lengths r.sorted d) = omega (arith, k.next, few) in (
      within,
      word_masked words at gap few within bytes
          ∙ ap (λ n. number_of (take gap (drop n words))) place
          ∙ ap (λ (t : List ℕ). number_of (take gap t))
          (sym (drop-drop (row + place_of r.lengths r.sorted d) 4 words) ∙ ap (drop (row + place_of r.lengths r.sorted d)) (sym is)),
    )

-- what reading a key's number from the slots comes to
pub record RankRead (D : ℕ) (p : Parts) (s : Slots D) (i d : ℕ) : Type 0 where
  pub within : i * p.stride + get_or s.places d 0 + 4 ≤ length p.words.now
  pub value : get_or s.bases d 0 + get_or p.table i 0 * get_or s.scales d 0
      + bit_and (number_of (take 4 (drop (i * p.stride + get_or s.places d 0) p.words.now))) (get_or s.masks d 0) ≡ number_of (key_at D (raw_keys_of p) i d)
  pub fits : number_of (key_at D (raw_keys_of p) i d) < 2 ^ 32

pub rank_read : (D : ℕ) (p : Parts) (s : Slots D) (i d : ℕ) → IsParts D p → AreSlots D p s → i < p.count → d < D → RankRead D p s i d
rank_read D p s i d h slots here lt =
    let r = raw_keys_of p in
    let left = left_read D p.count r p.words.now i d h.raw refl h.long h.bytes here lt in
    let at : i * p.stride + get_or s.places d 0 ≡ i * place_of p.lengths.now p.sorted D + place_of p.lengths.now p.sorted (d + 1) =
    (λ j. i * h.stride j + slots.places d lt j) in
    record {
      within = omega (arith, left.0, at);
      value = (λ j. slots.bases d lt j + sym (get_or-take p.count p.table i 0 here) j * slots.scales d lt j
          + bit_and (number_of (take 4 (drop (at j) p.words.now))) (slots.masks d lt j))
          ∙ ap (λ n. number_of (take (get_or p.lengths.now d 0) (drop (start_of p.lengths.now d) p.prefixes.now)) * 256 ^ (4 - get_or p.lengths.now d 0)
          + get_or r.bytes i 0 * cond (eqb d p.sorted) (256 ^ gap_of p.lengths.now p.sorted d) 0 + n) left.1
          ∙ sym (key_number D p.count r i d h.raw here lt);
      fits = omega (
        arith,
        number_of-lt (key_at D r i d) (AreBytes-key_at D p.count r i d h.raw here),
        ap (λ n. 256 ^ n) (length-key_at D p.count r i d h.raw here lt),
      );
    }

-- the same from a sorted byte and a word
pub rank_value : (D : ℕ) (p : Parts) (s : Slots D) (i d n w : ℕ) → IsParts D p → AreSlots D p s → i < p.count → d < D
    → n ≡ get_or p.table i 0 → w ≡ number_of (take 4 (drop (i * p.stride + get_or s.places d 0) p.words.now))
    → (get_or s.bases d 0 + n * get_or s.scales d 0 + bit_and w (get_or s.masks d 0) ≡ number_of (key_at D (raw_keys_of p) i d))
    × (number_of (key_at D (raw_keys_of p) i d) < 2 ^ 32)
rank_value D p s i d n w h slots here lt byte word =
    let read = rank_read D p s i d h slots here lt in
    ((λ j. get_or s.bases d 0 + byte j * get_or s.scales d 0 + bit_and (word j) (get_or s.masks d 0)) ∙ read.value, read.fits)

-- the coordinate from the bytes of a key's number
-- a coordinate that a function returns
pub coordinate_stays : (D : ℕ) (p : Parts) (i d : ℕ) (x : ℤ) → IsParts D p → i < p.count → d < D → x ≡ coordinate (key_at D (raw_keys_of p) i d)
    → to_z w32 (of_z w32 x) ≡ coordinate (key_at D (raw_keys_of p) i d)
coordinate_stays D p i d x h here lt is =
    let long = length-key_at D p.count (raw_keys_of p) i d h.raw here lt in
    let small = AreBytes-key_at D p.count (raw_keys_of p) i d h.raw here in
    ap (λ (y : ℤ). to_z w32 (of_z w32 y)) is ∙ to_z-of_z (coordinate-fits (key_at D (raw_keys_of p) i d) long small)

pub coordinate_read : (D : ℕ) (p : Parts) (i d n : ℕ) (b : List ℕ) (x : ℤ) → IsParts D p → i < p.count → d < D
    → n ≡ number_of (key_at D (raw_keys_of p) i d) → b ≡ to_be_bytes w32 n → ((y : ℤ) → FitsSigned w32 y → key y ≡ b → x ≡ y)
    → to_z w32 (of_z w32 x) ≡ coordinate (key_at D (raw_keys_of p) i d)
coordinate_read D p i d n b x h here lt number bytes back =
    let k = key_at D (raw_keys_of p) i d in
    let long = length-key_at D p.count (raw_keys_of p) i d h.raw here lt in
    let small = AreBytes-key_at D p.count (raw_keys_of p) i d h.raw here in
    let fits = coordinate-fits k long small in
    coordinate_stays D p i d x h here lt
    (back (coordinate k) fits (key-coordinate k long small ∙ sym (bytes ∙ ap (to_be_bytes w32) number ∙ to_be-number_of k long small)))

-- the prefix of a dimension lies among the prefixes, which are few
pub front_within : (D : ℕ) (p : Parts) (d : ℕ) → IsParts D p → D ≤ 8 → d < D
    → (start_of p.lengths.now d + get_or p.lengths.now d 0 ≤ length p.prefixes.now) × (length p.prefixes.now ≤ 32)
front_within D p d h few lt =
    let wide : ℕ → ℕ = λ e. get_or p.lengths.now e 0 in
    let all : start_of p.lengths.now D ≤ 4 * D = starts_le p.lengths.now D h.raw.short (omega (arith, h.raw.dims)) in
    (omega (arith, place_more wide d, place_le wide (d + 1) D (omega arith), h.raw.total), omega (arith, h.raw.total, all, few))
  where
    starts_le : (lengths : List ℕ) (n : ℕ) → All (λ m. m ≤ 4) lengths → n ≤ length lengths → place (λ e. get_or lengths e 0) n ≤ 4 * n
    starts_le lengths zero short le = omega arith
    starts_le lengths (suc n) short le =
        let next : suc n ≡ n + 1 = omega arith in
        omega (
          arith,
          starts_le lengths n short (omega arith),
          place_more (λ e. get_or lengths e 0) n,
          ap (place (λ e. get_or lengths e 0)) next,
          short n 0 (omega arith),
        )

pub mask_more : (m gap : ℕ) → m ≡ 256 ^ gap - 1 → gap ≤ 3 → (m + 1 ≡ 256 ^ gap) × (m < 2 ^ 24)
mask_more m zero is le = (omega (arith, is), omega (arith, is))
mask_more m (suc zero) is le = (omega (arith, is), omega (arith, is))
mask_more m (suc (suc zero)) is le = (omega (arith, is), omega (arith, is))
mask_more m (suc (suc (suc zero))) is le = (omega (arith, is), omega (arith, is))
mask_more m (suc (suc (suc (suc n)))) is le = absurd (omega arith)

pub base_read : (lengths prefixes : List ℕ) (d from n : ℕ) → from ≡ start_of lengths d → from + get_or lengths d 0 ≤ length prefixes
    → n ≡ number_of (take (from + get_or lengths d 0 - from) (drop from prefixes))
    * 256 ^ (4 - length (take (from + get_or lengths d 0 - from) (drop from prefixes)))
    → n ≡ number_of (take (get_or lengths d 0) (drop (start_of lengths d) prefixes)) * 256 ^ (4 - get_or lengths d 0)
base_read lengths prefixes d from n is within read =
    let len = get_or lengths d 0 in
    let part = take (from + len - from) (drop from prefixes) in
    let wide : from + len - from ≡ len = omega arith in
    let same : part ≡ take len (drop (start_of lengths d) prefixes) = (λ j. take (wide j) (drop (is j) prefixes)) in
    let long : length part ≡ len = omega (arith, length-take (from + len - from) (drop from prefixes), length-drop from prefixes, within) in
    read ∙ (λ j. number_of (same j) * 256 ^ (4 - long j))

-- behind the sorted byte at most three bytes are left
pub gap_sorted : (lengths : List ℕ) (s d : ℕ) → d ≡ s → gap_of lengths s d ≤ 3
gap_sorted lengths s d same = omega (arith, ap (λ (b : Bool). cond {A = ℕ} b 1 0) (eq-eqb d s same))
