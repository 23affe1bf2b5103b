-- How many values a list of bytes has, with one more byte behind it.
use Rattle.std.proofs.Common.{◌≡◌, ◌≢◌, ◌<◌, ◌≤◌, ◌+◌, ◌-◌, ℕ, zero, suc, Bool, true, false, not, eqb, List, [], ◌∷◌, ◌++◌, map, length, get_or}
use Rattle.std.proofs.Common.{refl, sym, ap, ◌∙◌, arith, cond, ◌||◌, inl, inr}
use Rattle.std.specs.List.{range_with_len, count_by}
use Rattle.std.proofs.lemmas.Bool.{cases_Bool, cases_eq, eq-eqb, ne_eqb, or_right}
use Rattle.std.proofs.lemmas.List.{map_push}
use Rattle.std.proofs.lemmas.List.Folds.{list_any-append}
use Rattle.leaf_codec.specs.Dimensions.{count_values}
use Rattle.leaf_codec.proofs.Counts.{count_agree, count-cons, count_none, values_agree}
use Rattle.leaf_codec.proofs.Lists.{range_more, as_range}
use Rattle.leaf_codec.proofs.OrderedKeys.{climbs}
use Rattle.leaf_codec.proofs.SeenBytes.{has_value}

-- p and q agree but at b, which passes q alone
count_plus : (p q : ℕ → Bool) (b a n : ℕ) → a ≤ b → b < a + n → p b ≡ false → q b ≡ true → ((i : ℕ) → i ≢ b → p i ≡ q i)
    → count_by q (range_with_len a n) ≡ count_by p (range_with_len a n) + 1
count_plus p q b a zero low high hp hq same = absurd (omega arith)
count_plus p q b a (suc n) low high hp hq same = elim (cases_eq a b) [
  | inl here ↦ (
      let none : cond {A = ℕ} (p a) 1 0 ≡ 0 = ap (λ (t : Bool). cond {A = ℕ} t 1 0) (ap p here ∙ hp) in
      let one : cond {A = ℕ} (q a) 1 0 ≡ 1 = ap (λ (t : Bool). cond {A = ℕ} t 1 0) (ap q here ∙ hq) in
      let rest : count_by p (range_with_len (a + 1) n) ≡ count_by q (range_with_len (a + 1) n) =
      count_agree p q (a + 1) n (λ i above under. same i (λ e. omega (arith, e, here, above))) in
      omega (arith, count-cons p a n, count-cons q a n, none, one, rest))
  | inr apart ↦ (
      let at : cond {A = ℕ} (p a) 1 0 ≡ cond {A = ℕ} (q a) 1 0 = ap (λ (t : Bool). cond {A = ℕ} t 1 0) (same a apart) in
      omega (arith, count-cons p a n, count-cons q a n, at, count_plus p q b (a + 1) n (omega arith) (omega arith) hp hq same))
]

values_plus : (p q : ℕ → Bool) (b : ℕ) → b < 256 → p b ≡ false → q b ≡ true → ((i : ℕ) → i ≢ b → p i ≡ q i) → count_values q ≡ count_values p + 1
unfolding count_values
values_plus p q b lt hp hq same = count_plus p q b 0 256 (omega arith) (omega arith) hp hq same

or-false : (t : Bool) → (t || false) ≡ t
or-false true = refl
or-false false = refl

has_more : (bytes : List ℕ) (b v : ℕ) → has_value (bytes ++ b ∷ []) v ≡ (has_value bytes v || eqb b v)
has_more bytes b v = list_any-append (λ x. eqb x v) bytes (b ∷ []) ∙ ap (λ (t : Bool). has_value bytes v || t) (or-false (eqb b v))

has_last : (bytes : List ℕ) (b : ℕ) → has_value (bytes ++ b ∷ []) b ≡ true
has_last bytes b = has_more bytes b b ∙ or_right (has_value bytes b) (eqb b b) (eq-eqb b b refl)

has_other : (bytes : List ℕ) (b v : ℕ) → v ≢ b → has_value bytes v ≡ has_value (bytes ++ b ∷ []) v
has_other bytes b v apart =
    sym (has_more bytes b v ∙ ap (λ (t : Bool). has_value bytes v || t) (ne_eqb b v (λ e. apart (sym e))) ∙ or-false (has_value bytes v))

values_new : (bytes : List ℕ) (b : ℕ) → b < 256 → has_value bytes b ≡ false
    → count_values (has_value (bytes ++ b ∷ [])) ≡ count_values (has_value bytes) + 1
values_new bytes b byte new =
    values_plus (has_value bytes) (has_value (bytes ++ b ∷ [])) b byte new (has_last bytes b) (λ v apart. has_other bytes b v apart)

values_old : (bytes : List ℕ) (b : ℕ) → has_value bytes b ≡ true → count_values (has_value (bytes ++ b ∷ [])) ≡ count_values (has_value bytes)
values_old bytes b old =
    values_agree (has_value (bytes ++ b ∷ [])) (has_value bytes) (λ v lt. elim (cases_eq v b) [
      | inl same ↦ ap (has_value (bytes ++ b ∷ [])) same ∙ has_last bytes b ∙ sym old ∙ ap (has_value bytes) (sym same)
      | inr apart ↦ sym (has_other bytes b v apart)
    ])

-- a byte is one value more exactly where it wasn't there
values_more : (bytes : List ℕ) (b : ℕ) → b < 256
    → count_values (has_value (bytes ++ b ∷ [])) ≡ count_values (has_value bytes) + cond {A = ℕ} (not (has_value bytes b)) 1 0
values_more bytes b byte = elim (cases_Bool (has_value bytes b)) [
  | inl old ↦ (
      let none : cond {A = ℕ} (not (has_value bytes b)) 1 0 ≡ 0 = ap (λ (t : Bool). cond {A = ℕ} (not t) 1 0) old in
      omega (arith, values_old bytes b old, none))
  | inr new ↦ (
      let one : cond {A = ℕ} (not (has_value bytes b)) 1 0 ≡ 1 = ap (λ (t : Bool). cond {A = ℕ} (not t) 1 0) new in
      omega (arith, values_new bytes b byte new, one))
]

pub flag_le : (b : Bool) → cond {A = ℕ} b 1 0 ≤ 1
flag_le true = omega arith
flag_le false = omega arith

pub values_none : count_values (has_value []) ≡ 0
unfolding count_values
values_none = count_none (has_value []) 0 256 (λ i low high. refl)

-- ---- the first bytes of many

abbrev pub firsts : (ℕ → ℕ) → ℕ → List ℕ
firsts byte n = map byte (range_with_len 0 n)

abbrev pub values_of : (ℕ → ℕ) → ℕ → ℕ
values_of byte n = count_values (has_value (firsts byte n))

pub firsts_more : (byte : ℕ → ℕ) (n : ℕ) → firsts byte (n + 1) ≡ firsts byte n ++ byte n ∷ []
firsts_more byte n =
    let same : 0 + n ≡ n = omega arith in
    ap (map byte) (range_more 0 n ∙ ap (λ m. range_with_len 0 n ++ m ∷ []) same) ∙ map_push byte (range_with_len 0 n) n

pub firsts_values : (byte : ℕ → ℕ) (n : ℕ) → byte n < 256
    → values_of byte (n + 1) ≡ values_of byte n + cond {A = ℕ} (not (has_value (firsts byte n) (byte n))) 1 0
firsts_values byte n small = ap (λ (t : List ℕ). count_values (has_value t)) (firsts_more byte n) ∙ values_more (firsts byte n) (byte n) small

pub values_grow : (byte : ℕ → ℕ) (m n : ℕ) → m ≤ n → ((i : ℕ) → i < n → byte i < 256) → values_of byte m ≤ values_of byte n
values_grow byte m zero le small = let none : m ≡ 0 = omega arith in rw none (omega arith)
values_grow byte m (suc n) le small = elim (cases_eq m (suc n)) [
  | inl same ↦ rw same (omega arith)
  | inr apart ↦ (
      let next : suc n ≡ n + 1 = omega arith in
      omega (
        arith,
        ap (values_of byte) next,
        firsts_values byte n (small n (omega arith)),
        values_grow byte m n (omega arith) (λ i lt. small i (omega arith)),
      ))
]

-- ---- bytes that never fall

none_of : (byte : ℕ → ℕ) (v n : ℕ) → ((i : ℕ) → i < n → byte i ≢ v) → has_value (firsts byte n) v ≡ false
none_of byte v zero h = refl
none_of byte v (suc n) h =
    let next : suc n ≡ n + 1 = omega arith in
    ap (λ k. has_value (firsts byte k) v) next
    ∙ ap (λ (t : List ℕ). has_value t v) (firsts_more byte n)
    ∙ has_more (firsts byte n) (byte n) v
    ∙ (λ j. none_of byte v n (λ i lt. h i (omega arith)) j || ne_eqb (byte n) v (h n (omega arith)) j)

-- a byte is among those before it exactly where it is the last of them
has_risen : (byte : ℕ → ℕ) (n i : ℕ) → ((k : ℕ) → k + 1 < n → byte k ≤ byte (k + 1)) → 1 ≤ i → i < n
    → has_value (firsts byte i) (byte i) ≡ eqb (byte i) (byte (i - 1))
has_risen byte n i rises some lt = elim (cases_eq (byte i) (byte (i - 1))) [
  | inl same ↦ (
      let before : i ≡ i - 1 + 1 = omega arith in
      ap (λ k. has_value (firsts byte k) (byte i)) before
      ∙ ap (λ (t : List ℕ). has_value t (byte i)) (firsts_more byte (i - 1))
      ∙ has_more (firsts byte (i - 1)) (byte (i - 1)) (byte i)
      ∙ or_right (has_value (firsts byte (i - 1)) (byte i)) (eqb (byte (i - 1)) (byte i)) (eq-eqb (byte (i - 1)) (byte i) (sym same))
      ∙ sym (eq-eqb (byte i) (byte (i - 1)) same))
  | inr apart ↦
      none_of byte (byte i) i (λ k under e.
      omega (arith, e, apart, climbs byte n rises k (i - 1) (omega arith) (omega arith), climbs byte n rises (i - 1) i (omega arith) lt))
      ∙ sym (ne_eqb (byte i) (byte (i - 1)) apart)
]

-- of rising bytes one more is a new value where it isn't the one before
pub rising_more : (byte : ℕ → ℕ) (n i : ℕ) → ((k : ℕ) → k + 1 < n → byte k ≤ byte (k + 1)) → 1 ≤ i → i < n → byte i < 256
    → values_of byte (i + 1) ≡ values_of byte i + cond (not (eqb (byte i) (byte (i - 1)))) 1 0
rising_more byte n i rises some lt small =
    firsts_values byte i small ∙ ap (λ (t : Bool). values_of byte i + cond {A = ℕ} (not t) 1 0) (has_risen byte n i rises some lt)

pub rising_first : (byte : ℕ → ℕ) → byte 0 < 256 → values_of byte 1 ≡ 1
rising_first byte small = firsts_values byte 0 small ∙ ap (λ n. n + 1) values_none

pub values_all : (bytes : List ℕ) → values_of (λ i. get_or bytes i 0) (length bytes) ≡ count_values (has_value bytes)
values_all bytes = ap (λ (t : List ℕ). count_values (has_value t)) (sym (as_range bytes 0))
