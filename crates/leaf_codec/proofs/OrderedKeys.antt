-- Keys as numbers: their order is that of the coordinates, and they tell what lies in a cell.
use Rattle.std.proofs.Common.{◌≡◌, ◌≢◌, ◌<◌, ◌≤◌, ◌+◌, ◌-◌, ◌*◌, ◌^◌, ℕ, zero, suc, ltb, Bool, true, List, [], ◌∷◌, length}
use Rattle.std.proofs.Common.{get_or, take, drop, cond, refl, sym, ap, subst, ◌∙◌, arith, inl, inr, ℤ, pos, negsuc}
use Rattle.std.specs.Prelude.{FitsSigned, int_le, bit_and}
use Rattle.std.specs.Int.{w32}
use Rattle.std.specs.Ordering.{int_cmp, nat_cmp}
use Rattle.std.specs.Cmp.{int_cmp_is}
use Rattle.std.specs.declared.cmp.Ordering.TheVariants.{Less, Equal, Greater}
use Rattle.std.proofs.lemmas.Int.{ints}
use Rattle.std.proofs.lemmas.Bool.{cases_lt, cases_eq, lt-ltb, le-ltb, cond-true, cond-false, and_from, ne_eqb}
use Rattle.std.proofs.lemmas.Bool.Decides.{nat_tests}
use Rattle.point_codec.specs.Points.{Item, Region, all_le, in_box}
use Rattle.point_codec.specs.Keys.{key, rank}
use Rattle.point_codec.proofs.Corners.{both_true}
use Rattle.leaf_codec.specs.LeafOrder.{leaf_cmp}
use Rattle.leaf_codec.specs.Raw.{RawNumbers, RawKeys, offset_at, gap_of, key_at, point_at, raw_item}
use Rattle.leaf_codec.specs.Views.{raw_keys_of, IsParts, AreSlots}
use Rattle.leaf_codec.specs.Words.{number_of, coordinate}
use Rattle.leaf_codec.specs.declared.read_parts.Parts.{Parts}
use Rattle.leaf_codec.specs.declared.read_parts.Slots.{Slots}
use Rattle.leaf_codec.proofs.Bytes.{at_rank, number_of-to_be}
use Rattle.leaf_codec.proofs.ItemsDecoded.{raw_item_is, length-point_at}
use Rattle.leaf_codec.proofs.KeysLemmas.{get_or-point_at}
use Rattle.leaf_codec.proofs.ReadKeys.{rank_read}
use Rattle.point_codec.proofs.KeyOrder.{rank-lt}

-- ---- coordinates of ranks

low_rank : (n : ℕ) → n < 2 ^ 31 → at_rank n ≡ negsuc (2 ^ 31 - 1 - n)
low_rank n lt = cond-true (ltb n (2 ^ 31)) (negsuc (2 ^ 31 - 1 - n)) (pos (n - 2 ^ 31)) (lt-ltb n (2 ^ 31) lt)

high_rank : (n : ℕ) → 2 ^ 31 ≤ n → at_rank n ≡ pos (n - 2 ^ 31)
high_rank n ge = cond-false (ltb n (2 ^ 31)) (negsuc (2 ^ 31 - 1 - n)) (pos (n - 2 ^ 31)) (le-ltb n (2 ^ 31) ge)

-- the coordinate of the less rank is less
less_ranked : (m n : ℕ) → m < n → int_cmp (at_rank m) (at_rank n) ≡ Less
less_ranked m n lt = elim (cases_lt n (2 ^ 31)) [
  | inl low ↦ (λ j. int_cmp (low_rank m (omega arith) j) (low_rank n low j))
      ∙ sym (int_cmp_is (negsuc (2 ^ 31 - 1 - m)) (negsuc (2 ^ 31 - 1 - n)) Less (omega (arith, ints)))
  | inr high ↦ elim (cases_lt m (2 ^ 31)) [
    | inl low ↦
        (λ j. int_cmp (low_rank m low j) (high_rank n high j)) ∙ sym (int_cmp_is (negsuc (2 ^ 31 - 1 - m)) (pos (n - 2 ^ 31)) Less (omega (arith, ints)))
    | inr both ↦ (λ j. int_cmp (high_rank m both j) (high_rank n high j)) ∙ sym (int_cmp_is (pos (m - 2 ^ 31)) (pos (n - 2 ^ 31)) Less (omega (arith, ints)))
  ]
]

-- at most: the same of ranks and of coordinates
rank_le : (x : ℤ) (n : ℕ) → FitsSigned w32 x → rank x ≤ n → int_le x (at_rank n) ≡ true
rank_le (pos a) n f le = rw (high_rank n (omega arith)) (grind (arith, nat_tests))
rank_le (negsuc a) n f le = elim (cases_lt n (2 ^ 31)) [
  | inl low ↦ rw (low_rank n low) (grind (arith, nat_tests, f.sfits))
  | inr high ↦ rw (high_rank n high) refl
]

le_rank : (n : ℕ) (x : ℤ) → FitsSigned w32 x → n ≤ rank x → int_le (at_rank n) x ≡ true
le_rank n (pos a) f le = elim (cases_lt n (2 ^ 31)) [
  | inl low ↦ rw (low_rank n low) refl
  | inr high ↦ rw (high_rank n high) (grind (arith, nat_tests))
]
le_rank n (negsuc a) f le = rw (low_rank n (omega (arith, f.sfits))) (grind (arith, nat_tests, f.sfits))

from_rank_le : (x : ℤ) (n : ℕ) → FitsSigned w32 x → int_le x (at_rank n) ≡ true → rank x ≤ n
from_rank_le (pos a) n f h = elim (cases_lt n (2 ^ 31)) [
  | inl low ↦ absurd (let no : int_le (pos a) (negsuc (2 ^ 31 - 1 - n)) ≡ true = sym (ap (λ (y : ℤ). int_le (pos a) y) (low_rank n low)) ∙ h in cc)
  | inr high ↦ (let is : int_le (pos a) (pos (n - 2 ^ 31)) ≡ true = sym (ap (λ (y : ℤ). int_le (pos a) y) (high_rank n high)) ∙ h in grind (arith, nat_tests))
]
from_rank_le (negsuc a) n f h = elim (cases_lt n (2 ^ 31)) [
  | inl low ↦
      (let is : int_le (negsuc a) (negsuc (2 ^ 31 - 1 - n)) ≡ true = sym (ap (λ (y : ℤ). int_le (negsuc a) y) (low_rank n low)) ∙ h in grind (arith, nat_tests))
  | inr high ↦ omega arith
]

from_le_rank : (n : ℕ) (x : ℤ) → FitsSigned w32 x → int_le (at_rank n) x ≡ true → n ≤ rank x
from_le_rank n (pos a) f h = elim (cases_lt n (2 ^ 31)) [
  | inl low ↦ omega arith
  | inr high ↦ (let is : int_le (pos (n - 2 ^ 31)) (pos a) ≡ true = sym (ap (λ (y : ℤ). int_le y (pos a)) (high_rank n high)) ∙ h in grind (arith, nat_tests))
]
from_le_rank n (negsuc a) f h = elim (cases_lt n (2 ^ 31)) [
  | inl low ↦
      (let is : int_le (negsuc (2 ^ 31 - 1 - n)) (negsuc a) ≡ true = sym (ap (λ (y : ℤ). int_le y (negsuc a)) (low_rank n low)) ∙ h in grind (arith, nat_tests))
  | inr high ↦ absurd (let no : int_le (pos (n - 2 ^ 31)) (negsuc a) ≡ true = sym (ap (λ (y : ℤ). int_le y (negsuc a)) (high_rank n high)) ∙ h in cc)
]

coordinate_is : (bs : List ℕ) → coordinate bs ≡ at_rank (number_of bs)
unfolding coordinate
coordinate_is bs = refl

key_number : (x : ℤ) → FitsSigned w32 x → number_of (key x) ≡ rank x
key_number x f = number_of-to_be (rank x) (rank-lt x f)

-- ---- leaf order

-- the key of entry i in dimension d as a number
abbrev pub rank_of : ℕ → RawKeys → ℕ → ℕ → ℕ
rank_of D r i d = number_of (key_at D r i d)

coordinate_at : (D i d : ℕ) (r : RawKeys) → d < D → get_or (point_at D r i) d (pos 0) ≡ at_rank (rank_of D r i d)
coordinate_at D i d r lt = get_or-point_at D i d r (pos 0) lt ∙ coordinate_is (key_at D r i d)

less_first : (d : ℕ) (x y : Item) → int_cmp (get_or x.at d (pos 0)) (get_or y.at d (pos 0)) ≡ Less → leaf_cmp d x y ≡ Less
unfolding leaf_cmp
less_first d x y less = rw less refl

less_second : (d : ℕ) (x y : Item) → int_cmp (get_or x.at d (pos 0)) (get_or y.at d (pos 0)) ≡ Equal → nat_cmp x.doc y.doc ≡ Less → leaf_cmp d x y ≡ Less
unfolding leaf_cmp
less_second d x y same less = rw (same, less) refl

pub not_greater : (d : ℕ) (x y : Item) → int_cmp (get_or x.at d (pos 0)) (get_or y.at d (pos 0)) ≡ Greater → leaf_cmp d x y ≡ Less → ⊥
unfolding leaf_cmp
not_greater d x y greater less = absurd (let no = rw greater at less in cc)

-- the key and behind it the number, in one word
abbrev pub word_of : ℕ → RawNumbers → RawKeys → ℕ → ℕ → ℕ
word_of D n r d i = rank_of D r i d * 2 ^ 32 + (n.least + offset_at n i)

-- the less word is that of the entry that comes before
pub less_word : (D d i j : ℕ) (n : RawNumbers) (r : RawKeys) → d < D → n.least + offset_at n j < 2 ^ 32 → word_of D n r d i < word_of D n r d j
    → leaf_cmp d (raw_item D n r i) (raw_item D n r j) ≡ Less
less_word D d i j n r lt small less =
    let x : Item = record { doc = n.least + offset_at n i; at = point_at D r i } in
    let y : Item = record { doc = n.least + offset_at n j; at = point_at D r j } in
    (λ k. leaf_cmp d (raw_item_is D i n r k) (raw_item_is D j n r k))
    ∙ elim (cases_lt (rank_of D r i d) (rank_of D r j d)) [
      | inl under ↦
          less_first d x y ((λ k. int_cmp (coordinate_at D i d r lt k) (coordinate_at D j d r lt k)) ∙ less_ranked (rank_of D r i d) (rank_of D r j d) under)
      | inr over ↦
          let same : rank_of D r i d ≡ rank_of D r j d = omega arith in
          let docs : n.least + offset_at n i < n.least + offset_at n j = omega arith in
          let at : get_or (point_at D r i) d (pos 0) ≡ get_or (point_at D r j) d (pos 0) =
          coordinate_at D i d r lt ∙ ap at_rank same ∙ sym (coordinate_at D j d r lt) in
          less_second d x y
          (ap (λ (c : ℤ). int_cmp c (get_or (point_at D r j) d (pos 0))) at ∙ sym
          (int_cmp_is (get_or (point_at D r j) d (pos 0)) (get_or (point_at D r j) d (pos 0)) Equal refl)) (grind (arith, nat_tests))
    ]

-- what comes before has no greater key
pub less_rank : (D d i j : ℕ) (n : RawNumbers) (r : RawKeys) → d < D → leaf_cmp d (raw_item D n r i) (raw_item D n r j) ≡ Less
    → rank_of D r i d ≤ rank_of D r j d
less_rank D d i j n r lt less = elim (cases_lt (rank_of D r j d) (rank_of D r i d)) [
  | inl over ↦
      let x : Item = record { doc = n.least + offset_at n i; at = point_at D r i } in
      let y : Item = record { doc = n.least + offset_at n j; at = point_at D r j } in
      let back : int_cmp (get_or y.at d (pos 0)) (get_or x.at d (pos 0)) ≡ Less =
      (λ k. int_cmp (coordinate_at D j d r lt k) (coordinate_at D i d r lt k)) ∙ less_ranked (rank_of D r j d) (rank_of D r i d) over in
      let greater : int_cmp (get_or x.at d (pos 0)) (get_or y.at d (pos 0)) ≡ Greater = grind (arith, nat_tests) in
      absurd (not_greater d x y greater (sym (λ k. leaf_cmp d (raw_item_is D i n r k) (raw_item_is D j n r k)) ∙ less))
  | inr under ↦ under
]

-- what never falls from each to the next doesn't fall
pub climbs : (f : ℕ → ℕ) (n : ℕ) → ((k : ℕ) → k + 1 < n → f k ≤ f (k + 1)) → (i j : ℕ) → i ≤ j → j < n → f i ≤ f j
climbs f n up i zero le lt = let same : i ≡ 0 = omega arith in rw same (omega arith)
climbs f n up i (suc j) le lt = elim (cases_eq i (suc j)) [
  | inl same ↦ rw same (omega arith)
  | inr apart ↦
      let next : suc j ≡ j + 1 = omega arith in
      let before : f i ≤ f j = climbs f n up i j (omega arith) (omega arith) in
      let step : f j ≤ f (suc j) = subst (λ m. f j ≤ f m) (sym next) (up j (omega arith)) in
      omega (arith, before, step)
]

-- ---- cells

-- the keys of all entries in dimension e lie between two numbers
abbrev pub AreBetween : (D count : ℕ) → RawKeys → (e low high : ℕ) → Type 0
AreBetween D count r e low high = (i : ℕ) → i < count → (low ≤ rank_of D r i e) × (rank_of D r i e ≤ high)

-- and the coordinates between two coordinates
abbrev pub AreWithin : (D count : ℕ) → RawKeys → Region → ℕ → Type 0
AreWithin D count r cell e = (i : ℕ) → i < count
    → (int_le (get_or cell.lo e (pos 0)) (get_or (point_at D r i) e (pos 0)) ≡ true)
    × (int_le (get_or (point_at D r i) e (pos 0)) (get_or cell.hi e (pos 0)) ≡ true)

pub between_within : (D count : ℕ) (r : RawKeys) (cell : Region) (e low high : ℕ) → e < D → FitsSigned w32 (get_or cell.lo e (pos 0))
    → FitsSigned w32 (get_or cell.hi e (pos 0))
    → low ≡ number_of (key (get_or cell.lo e (pos 0))) → high ≡ number_of (key (get_or cell.hi e (pos 0))) → AreBetween D count r e low high
    → AreWithin D count r cell e
between_within D count r cell e low high lt fits_lo fits_hi low_is high_is h i under =
    let lo : ℤ = get_or cell.lo e (pos 0) in
    let hi : ℤ = get_or cell.hi e (pos 0) in
    let at = coordinate_at D i e r lt in
    let b = h i under in (
      ap (λ (c : ℤ). int_le lo c) at ∙ rank_le lo (rank_of D r i e) fits_lo (omega (arith, b.0, low_is, key_number lo fits_lo)),
      ap (λ (c : ℤ). int_le c hi) at ∙ le_rank (rank_of D r i e) hi fits_hi (omega (arith, b.1, high_is, key_number hi fits_hi)),
    )

pub within_between : (D count : ℕ) (r : RawKeys) (cell : Region) (e low high : ℕ) → e < D → FitsSigned w32 (get_or cell.lo e (pos 0))
    → FitsSigned w32 (get_or cell.hi e (pos 0))
    → low ≡ number_of (key (get_or cell.lo e (pos 0))) → high ≡ number_of (key (get_or cell.hi e (pos 0))) → AreWithin D count r cell e
    → AreBetween D count r e low high
within_between D count r cell e low high lt fits_lo fits_hi low_is high_is h i under =
    let lo : ℤ = get_or cell.lo e (pos 0) in
    let hi : ℤ = get_or cell.hi e (pos 0) in
    let at = coordinate_at D i e r lt in
    let b = h i under in (
      omega (arith, from_rank_le lo (rank_of D r i e) fits_lo (sym (ap (λ (c : ℤ). int_le lo c) at) ∙ b.0), low_is, key_number lo fits_lo),
      omega (arith, from_le_rank (rank_of D r i e) hi fits_hi (sym (ap (λ (c : ℤ). int_le c hi) at) ∙ b.1), high_is, key_number hi fits_hi),
    )

all_le_each : (a b : List ℤ) → length a ≡ length b → ((e : ℕ) → e < length a → int_le (get_or a e (pos 0)) (get_or b e (pos 0)) ≡ true) → all_le a b ≡ true
all_le_each [] [] same h = refl
all_le_each [] (y ∷ ys) same h = absurd (omega arith)
all_le_each (x ∷ xs) [] same h = absurd (omega arith)
all_le_each (x ∷ xs) (y ∷ ys) same h =
    and_from (int_le x y) (all_le xs ys) (h 0 (omega arith)) (all_le_each xs ys (omega arith) (λ e lt. h (suc e) (omega arith)))

all_le_get : (a b : List ℤ) (e : ℕ) → all_le a b ≡ true → e < length a → int_le (get_or a e (pos 0)) (get_or b e (pos 0)) ≡ true
all_le_get [] b e h lt = absurd (omega arith)
all_le_get (x ∷ xs) [] e h lt = absurd cc
all_le_get (x ∷ xs) (y ∷ ys) zero h lt = (both_true (int_le x y) (all_le xs ys) h).0
all_le_get (x ∷ xs) (y ∷ ys) (suc e) h lt = all_le_get xs ys e (both_true (int_le x y) (all_le xs ys) h).1 (omega arith)

-- all points lie in the cell exactly where they do in each dimension
pub inside_all : (D count : ℕ) (r : RawKeys) (cell : Region) → length cell.lo ≡ D → length cell.hi ≡ D → ((e : ℕ) → e < D → AreWithin D count r cell e)
    → (i : ℕ) → i < count → in_box cell (point_at D r i) ≡ true
inside_all D count r cell long_lo long_hi h i lt =
    let p : List ℤ = point_at D r i in
    let long : length p ≡ D = length-point_at D i r in
    and_from (all_le cell.lo p) (all_le p cell.hi)
    (all_le_each cell.lo p (long_lo ∙ sym long) (λ e under. (h e (omega (arith, under, long_lo)) i lt).0))
    (all_le_each p cell.hi (long ∙ sym long_hi) (λ e under. (h e (omega (arith, under, long)) i lt).1))

pub inside_each : (D count : ℕ) (r : RawKeys) (cell : Region) → length cell.lo ≡ D → ((i : ℕ) → i < count → in_box cell (point_at D r i) ≡ true)
    → (e : ℕ) → e < D → AreWithin D count r cell e
inside_each D count r cell long_lo h e lt i under =
    let p : List ℤ = point_at D r i in
    let long : length p ≡ D = length-point_at D i r in
    let both = both_true (all_le cell.lo p) (all_le p cell.hi) (h i under) in
    (all_le_get cell.lo p e both.0 (omega (arith, lt, long_lo)), all_le_get p cell.hi e both.1 (omega (arith, lt, long)))

-- ---- what is left of a key

-- keys that ascend lie between two numbers where the first and the last one do
pub ends_all : (D count : ℕ) (r : RawKeys) (e low high : ℕ) → 1 ≤ count → ((k : ℕ) → k + 1 < count → rank_of D r k e ≤ rank_of D r (k + 1) e)
    → low ≤ rank_of D r 0 e → rank_of D r (count - 1) e ≤ high → AreBetween D count r e low high
ends_all D count r e low high some rises first last i lt =
    let f : ℕ → ℕ = λ k. rank_of D r k e in (
      omega (arith, first, climbs f count rises 0 i (omega arith) lt),
      omega (arith, last, climbs f count rises i (count - 1) (omega arith) (omega arith)),
    )

-- the word of an entry in a dimension that isn't the sorted one
abbrev pub rest_of : {D : ℕ} → Parts → Slots D → ℕ → ℕ → ℕ
rest_of p s e i = bit_and (number_of (take 4 (drop (get_or s.places e 0 + i * p.stride) p.words.now))) (get_or s.masks e 0)

pub rest_rank : {D : ℕ} (p : Parts) (s : Slots D) (i e : ℕ) → IsParts D p → AreSlots D p s → i < p.count → e < D → e ≢ p.sorted
    → (get_or s.places e 0 + i * p.stride + 4 ≤ length p.words.now) × (rank_of D (raw_keys_of p) i e ≡ get_or s.bases e 0 + rest_of p s e i)
rest_rank {D} p s i e h slots here lt apart =
    let read = rank_read D p s i e h slots here lt in
    let none : get_or s.scales e 0 ≡ 0 = slots.scales e lt ∙ ap (λ (b : Bool). cond b (256 ^ gap_of p.lengths.now p.sorted e) 0) (ne_eqb e p.sorted apart) in
    let still : get_or p.table i 0 * get_or s.scales e 0 ≡ 0 = ap (λ n. get_or p.table i 0 * n) none ∙ omega arith in
    let swap : i * p.stride + get_or s.places e 0 ≡ get_or s.places e 0 + i * p.stride = omega arith in
    let same : bit_and (number_of (take 4 (drop (i * p.stride + get_or s.places e 0) p.words.now))) (get_or s.masks e 0) ≡ rest_of p s e i =
    ap (λ n. bit_and (number_of (take 4 (drop n p.words.now))) (get_or s.masks e 0)) swap in
    (omega (arith, read.within), omega (arith, read.value, still, same))

pub rests_all : {D : ℕ} (p : Parts) (s : Slots D) (e low high least most : ℕ) → IsParts D p → AreSlots D p s → e < D → e ≢ p.sorted
    → get_or s.bases e 0 ≤ high → least ≡ low - get_or s.bases e 0 → most ≡ high - get_or s.bases e 0
    → ((i : ℕ) → i < p.count → (least ≤ rest_of p s e i) × (rest_of p s e i ≤ most)) → AreBetween D p.count (raw_keys_of p) e low high
rests_all p s e low high least most h slots lt apart over least_is most_is each i under =
    let is = (rest_rank p s i e h slots under lt apart).1 in
    (omega (arith, (each i under).0, is, least_is), omega (arith, (each i under).1, is, most_is, over))

pub rests_each : {D : ℕ} (p : Parts) (s : Slots D) (e low high least most : ℕ) → IsParts D p → AreSlots D p s → e < D → e ≢ p.sorted
    → least ≡ low - get_or s.bases e 0 → most ≡ high - get_or s.bases e 0
    → AreBetween D p.count (raw_keys_of p) e low high → (i : ℕ) → i < p.count → (least ≤ rest_of p s e i) × (rest_of p s e i ≤ most)
rests_each p s e low high least most h slots lt apart least_is most_is all i under =
    let is = (rest_rank p s i e h slots under lt apart).1 in
    (omega (arith, (all i under).0, is, least_is), omega (arith, (all i under).1, is, most_is))
