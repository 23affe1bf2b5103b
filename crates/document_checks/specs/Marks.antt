-- Numbers marked in words of 64 bits.
use Rattle.std.specs.Prelude.{ℕ, ◌/◌, ◌%◌, Bool, List, slice_index}
use Rattle.live_bits.specs.LiveBody.{has_bit}

-- the number's bit is set: the first 64 numbers have the bits of the first word, the lowest bit first
abbrev pub is_marked : List ℕ → ℕ → Bool
is_marked words n = has_bit (slice_index words (n / 64)) (n % 64)
