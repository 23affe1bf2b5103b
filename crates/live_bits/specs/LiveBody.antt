-- The body of a file of live bits: one spelling for each set, segment and generation.
use Rattle.std.specs.Prelude.{◌≡◌, ◌≤◌, ◌<◌, ℕ, zero, suc, ◌+◌, ◌-◌, ◌/◌, ◌%◌, ◌^◌, ◌==◌, Bool, false, List, [], ◌∷◌}
use Rattle.std.specs.Prelude.{◌++◌, length, filter, All, slice_index, codes}
use Rattle.std.specs.Int.{w32, w64, to_be_bytes}
use Rattle.live_bits.specs.LiveSet.{LiveSet}

-- bit i of the bytes, the lowest bit of each byte first
abbrev pub is_set : List ℕ → ℕ → Bool
is_set bits i = slice_index bits (i / 8) / 2 ^ (i % 8) % 2 == 1

-- bit k of the number, the lowest bit first
abbrev pub has_bit : ℕ → ℕ → Bool
has_bit word k = word / 2 ^ k % 2 == 1

-- so many numbers from the first on
abbrev pub numbers_from : ℕ → ℕ → List ℕ
numbers_from first zero = []
numbers_from first (suc count) = first ∷ numbers_from (first + 1) count

-- the numbers base + i for which bit i is set, i below span
unfoldable pub live_in : ℕ → ℕ → List ℕ → List ℕ
live_in base span bits = filter (λ n. is_set bits (n - base)) (numbers_from base span)

-- the bytes have a bit for each number of the span, and are filled with zero bits
pub record AreBits (base span : ℕ) (bits : List ℕ) : Type 0 where
  pub limit : base + span ≤ 16777216
  pub len : length bits ≡ (span + 7) / 8
  pub past : (i : ℕ) → span ≤ i → is_set bits i ≡ false

-- what stands before the bits (this project's format, the greatest byte of a number first)
unfoldable pub head : ℕ → ℕ → ℕ → ℕ → ℕ → List ℕ
head segment generation base span count =
    codes "BKDPLIV1" ++ to_be_bytes w64 segment ++ to_be_bytes w64 generation ++ to_be_bytes w32 base ++ to_be_bytes w32
    span ++ to_be_bytes w32 count

-- the bytes are the body of this set for a segment and a generation, all of them
pub record IsLiveBody (segment generation : ℕ) (s : LiveSet) (bytes : List ℕ) : Type 0 where
  pub bits : List ℕ
  pub are_bytes : All (λ b. b < 256) bits
  pub are_bits : AreBits s.base s.span bits
  pub numbers : s.live ≡ live_in s.base s.span bits
  pub spelling : bytes ≡ head segment generation s.base s.span (length s.live) ++ bits

-- the bytes begin with what stands before the bits, and so say how long the body is
pub record SaysLength (segment generation : ℕ) (front : List ℕ) (length : ℕ) : Type 0 where
  pub base : ℕ
  pub span : ℕ
  pub count : ℕ
  pub rest : List ℕ
  pub begins : front ≡ head segment generation base span count ++ rest
  pub limit : base + span ≤ 16777216
  pub long : length ≡ 36 + (span + 7) / 8

-- no set has these bytes as its body
abbrev pub HasNoSet : ℕ → ℕ → List ℕ → Type 0
HasNoSet segment generation bytes = (s : LiveSet) → IsLiveBody segment generation s bytes → ⊥

-- ---- what a set is kept as: its base, its span, how many bits are set, and the bits as in a body

abbrev pub live_set : ℕ → ℕ → List ℕ → LiveSet
live_set base span bits = record { base = base; span = span; live = live_in base span bits }

pub record AreCountedBits (base span count : ℕ) (bits : List ℕ) : Type 0 where
  pub are_bits : AreBits base span bits
  pub counted : count ≡ length (live_in base span bits)
