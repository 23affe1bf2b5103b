-- Words of 64 bits: the bytes that they are made of, and what shifts leave of them.
use Rattle.std.proofs.Common.{◌≡◌, ◌<◌, ◌≤◌, ◌+◌, ◌-◌, ◌*◌, ◌/◌, ◌%◌, ◌^◌, ℕ, zero, suc, Bool, false, ◌&&◌, ◌||◌}
use Rattle.std.proofs.Common.{nat_eq, nat_le, List, get_or, bit_or, refl, sym, ap, subst, ◌∙◌, arith, inl, inr}
use Rattle.std.specs.Int.{w64, byte_worth, from_le_bytes, sum_through}
use Rattle.std.proofs.Math.Nat.{pow-suc}
use Rattle.std.proofs.Math.Bool.{or-false}
use Rattle.std.proofs.lemmas.Bool.{cases_lt, le-leb, lt-leb}
use Rattle.std.proofs.lemmas.Nat.{mul-add-lt, pow-add, pow_pos, shr-shr, shr_split}
use Rattle.std.proofs.lemmas.Nat.Bits.{bit_at-zero, bit_at_above, bit_at_cat_low, bit_at_cat_high}
use Rattle.live_bits.specs.LiveSet.{is_live}
use Rattle.live_bits.specs.LiveBody.{AreBits, has_bit, is_set, live_set}
use Rattle.live_bits.proofs.LiveNumbers.{live_inside, live_outside}
use Rattle.live_bits.proofs.SingleBits.{or_bit}

-- ---- shifts

bit-shr : (n s k : ℕ) → has_bit (n / 2 ^ s) k ≡ has_bit n (s + k)
bit-shr n s k = ap (λ (x : ℕ). nat_eq (x % 2) 1) (shr-shr n s k)

bit-mod : (n w k : ℕ) → k < w → has_bit (n % 2 ^ w) k ≡ has_bit n k
bit-mod n w k lt =
    ap (λ (x : ℕ). nat_eq x 1) (sym (bit_at_cat_low (n / 2 ^ w) w (n % 2 ^ w) k lt))
    ∙ ap (λ (m : ℕ). has_bit m k) (shr_split n w)

bit-shl_low : (n s k : ℕ) → k < s → has_bit (n * 2 ^ s) k ≡ false
bit-shl_low n s k lt =
    let same : n * 2 ^ s ≡ n * 2 ^ s + 0 = omega arith in
    ap (λ (m : ℕ). has_bit m k) same ∙ ap (λ (x : ℕ). nat_eq x 1) (bit_at_cat_low n s 0 k lt ∙ bit_at-zero k)

bit-shl_high : (n s k : ℕ) → s ≤ k → has_bit (n * 2 ^ s) k ≡ has_bit n (k - s)
bit-shl_high n s k le =
    let same : n * 2 ^ s ≡ n * 2 ^ s + 0 = omega arith in
    ap (λ (m : ℕ). has_bit m k) same ∙ ap (λ (x : ℕ). nat_eq x 1) (bit_at_cat_high n s 0 k (pow_pos s) le)

-- ---- the number of bytes, the lowest first

abbrev Bytes : List ℕ → Type 0
Bytes bs = (j : ℕ) → get_or bs j 0 < 256

abbrev worth : List ℕ → ℕ → ℕ
worth bs m = sum_through (λ i. byte_worth i (get_or bs i 0)) m

bytes_pow : (k : ℕ) → 256 ^ k ≡ 2 ^ (8 * k)
bytes_pow zero = refl
bytes_pow (suc k) =
    let next : 8 * suc k ≡ 8 * k + 8 = omega arith in
    pow-suc 256 k ∙ ap (λ (x : ℕ). x * 256) (bytes_pow k) ∙ sym (ap (λ (e : ℕ). 2 ^ e) next ∙ pow-add 2 (8 * k) 8)

worth_more : (bs : List ℕ) (m : ℕ) → worth bs (suc m) ≡ get_or bs (suc m) 0 * 2 ^ (8 * suc m) + worth bs m
worth_more bs m = omega (arith, ap (λ (x : ℕ). get_or bs (suc m) 0 * x) (bytes_pow (suc m)))

worth_below : (bs : List ℕ) (m : ℕ) → Bytes bs → worth bs m < 2 ^ (8 * suc m)
worth_below bs zero bytes = bytes 0
worth_below bs (suc m) bytes =
    let next : 8 * suc (suc m) ≡ 8 + 8 * suc m = omega arith in
    let wide : 2 ^ (8 * suc (suc m)) ≡ 2 ^ (8 * suc m) * 256 = ap (λ (e : ℕ). 2 ^ e) next ∙ pow-add 2 8 (8 * suc m) ∙ omega arith in
    subst (λ (x : ℕ). x < 2 ^ (8 * suc (suc m))) (sym (worth_more bs m))
    (subst (λ (x : ℕ). get_or bs (suc m) 0 * 2 ^ (8 * suc m) + worth bs m < x) (sym wide)
    (mul-add-lt (get_or bs (suc m) 0) (2 ^ (8 * suc m)) (worth bs m) 256 (bytes (suc m)) (worth_below bs m bytes)))

set_of_byte : (bs : List ℕ) (j k : ℕ) → 8 * j ≤ k → k < 8 * suc j → has_bit (get_or bs j 0) (k - 8 * j) ≡ is_set bs k
set_of_byte bs j k le lt =
    let byte : j ≡ k / 8 = omega arith in
    let place : k - 8 * j ≡ k % 8 = omega arith in
    λ i. has_bit (get_or bs (byte i) 0) (place i)

worth_bit : (bs : List ℕ) (m k : ℕ) → Bytes bs → k < 8 * suc m → has_bit (worth bs m) k ≡ is_set bs k
worth_bit bs zero k bytes lt =
    let from : k ≡ k - 8 * 0 = omega arith in
    ap (has_bit (get_or bs 0 0)) from ∙ set_of_byte bs 0 k (omega arith) lt
worth_bit bs (suc m) k bytes lt =
    ap (λ (x : ℕ). has_bit x k) (worth_more bs m)
    ∙ elim (cases_lt k (8 * suc m)) [
      | inl low ↦ ap (λ (x : ℕ). nat_eq x 1) (bit_at_cat_low (get_or bs (suc m) 0) (8 * suc m) (worth bs m) k low) ∙ worth_bit bs m k bytes low
      | inr high ↦
          ap (λ (x : ℕ). nat_eq x 1) (bit_at_cat_high (get_or bs (suc m) 0) (8 * suc m) (worth bs m) k (worth_below bs m bytes) high)
          ∙ set_of_byte bs (suc m) k high lt
    ]

number_bit : (bs : List ℕ) (k : ℕ) → Bytes bs → k < 64 → has_bit (from_le_bytes w64 bs) k ≡ is_set bs k
number_bit bs k bytes lt = worth_bit bs 7 k bytes (omega arith)

-- ---- a word of bytes

-- eight bytes from a place on
pub record IsEight (bits : List ℕ) (at : ℕ) (eight : List ℕ) : Type 0 where
  pub bytes : Bytes eight
  pub same : (j : ℕ) → j < 8 → get_or eight j 0 ≡ get_or bits (at + j) 0

pub low_bit : (bits eight : List ℕ) (at k : ℕ) → IsEight bits at eight → k < 64 → has_bit (from_le_bytes w64 eight) k ≡ is_set bits (8 * at + k)
low_bit bits eight at k e lt =
    let byte : at + k / 8 ≡ (8 * at + k) / 8 = omega arith in
    let place : k % 8 ≡ (8 * at + k) % 8 = omega arith in
    number_bit eight k e.bytes lt
    ∙ ap (λ (b : ℕ). has_bit b (k % 8)) (e.same (k / 8) (omega arith))
    ∙ (λ i. has_bit (get_or bits (byte i) 0) (place i))

-- the bits of eight bytes from a place in the first one on, and then those of the byte after them
pub both_bits : (bits eight : List ℕ) (i k : ℕ) → IsEight bits (i / 8) eight → k < 64 → 0 < i % 8
    → has_bit (bit_or (from_le_bytes w64 eight / 2 ^ (i % 8)) (get_or bits (i / 8 + 8) 0 * 2 ^ (64 - i % 8) % 2 ^ 64)) k ≡ is_set bits (i + k)
both_bits bits eight i k e lt odd =
    or_bit low high k
    ∙ elim (cases_lt (i % 8 + k) 64) [
      | inl inside ↦
          let same : 8 * (i / 8) + (i % 8 + k) ≡ i + k = omega arith in
          let here : has_bit low k ≡ is_set bits (i + k) =
          bit-shr number (i % 8) k ∙ low_bit bits eight (i / 8) (i % 8 + k) e inside ∙ ap (is_set bits) same in
          let none : has_bit high k ≡ false = bit-mod after 64 k lt ∙ bit-shl_low (get_or bits (i / 8 + 8) 0) (64 - i % 8) k (omega arith) in
          (λ j. here j || none j) ∙ or-false (is_set bits (i + k))
      | inr past ↦
          let none : has_bit low k ≡ false =
          bit-shr number (i % 8) k ∙ ap (λ (x : ℕ). nat_eq x 1) (bit_at_above number 64 (i % 8 + k) (worth_below eight 7 e.bytes) past) in
          let byte : i / 8 + 8 ≡ (i + k) / 8 = omega arith in
          let place : k - (64 - i % 8) ≡ (i + k) % 8 = omega arith in
          let here : has_bit high k ≡ is_set bits (i + k) =
          bit-mod after 64 k lt ∙ bit-shl_high (get_or bits (i / 8 + 8) 0) (64 - i % 8) k (omega arith)
          ∙ (λ j. has_bit (get_or bits (byte j) 0) (place j)) in
          (λ j. none j || here j)
    ]
  where
    number : ℕ
    number = from_le_bytes w64 eight

    low : ℕ
    low = number / 2 ^ (i % 8)

    after : ℕ
    after = get_or bits (i / 8 + 8) 0 * 2 ^ (64 - i % 8)

    high : ℕ
    high = after % 2 ^ 64

-- a word behind so many zeros
pub bit-after : (word gap k : ℕ) (bits : List ℕ) → k < 64 → ((j : ℕ) → j < 64 → has_bit word j ≡ is_set bits (0 + j))
    → has_bit (word * 2 ^ gap % 2 ^ 64) k ≡ (nat_le gap k && is_set bits (k - gap))
bit-after word gap k bits lt is =
    bit-mod (word * 2 ^ gap) 64 k lt
    ∙ elim (cases_lt k gap) [
      | inl low ↦ bit-shl_low word gap k low ∙ sym (ap (λ (b : Bool). b && is_set bits (k - gap)) (lt-leb gap k low))
      | inr high ↦
          let same : 0 + (k - gap) ≡ k - gap = omega arith in
          bit-shl_high word gap k high ∙ is (k - gap) (omega arith) ∙ ap (is_set bits) same
          ∙ sym (ap (λ (b : Bool). b && is_set bits (k - gap)) (le-leb gap k high))
    ]

-- ---- the words of a set

-- from the first number on the bits alone say what is live
live_bit : (base span n : ℕ) (bits : List ℕ) → AreBits base span bits → base ≤ n → is_live (live_set base span bits) n ≡ is_set bits (n - base)
live_bit base span n bits are above =
    elim (cases_lt n (base + span)) [
      | inl below ↦ live_inside base span bits n above below
      | inr past ↦ live_outside base span bits n (inr past) ∙ sym (are.past (n - base) (omega arith))
    ]

-- a word that begins at bit i
pub live-from : (base span first i k : ℕ) (bits : List ℕ) → AreBits base span bits → base ≤ first → i ≡ first - base
    → is_set bits (i + k) ≡ is_live (live_set base span bits) (first + k)
live-from base span first i k bits are above is =
    let same : i + k ≡ first + k - base = omega arith in
    ap (is_set bits) same ∙ sym (live_bit base span (first + k) bits are (omega arith))

-- a word that begins before the bits
pub live-after : (base span first k : ℕ) (bits : List ℕ) → AreBits base span bits → first < base
    → (nat_le (base - first) k && is_set bits (k - (base - first))) ≡ is_live (live_set base span bits) (first + k)
live-after base span first k bits are before =
    elim (cases_lt k (base - first)) [
      | inl low ↦ ap (λ (b : Bool). b && is_set bits (k - (base - first))) (lt-leb (base - first) k low)
          ∙ sym (live_outside base span bits (first + k) (inl (omega arith)))
      | inr high ↦
          let same : k - (base - first) ≡ first + k - base = omega arith in
          ap (λ (b : Bool). b && is_set bits (k - (base - first))) (le-leb (base - first) k high)
          ∙ ap (is_set bits) same ∙ sym (live_bit base span (first + k) bits are (omega arith))
    ]
