-- The sortable key of a coordinate: its bits with the sign turned, greatest byte first (Lucene's sortable integers).
use Rattle.std.specs.Prelude.{ℕ, ◌+◌, ◌-◌, ◌^◌, suc, List, ℤ, pos, negsuc}
use Rattle.std.specs.Int.{to_be_bytes}
use mir.Syntax.{w32}

-- the coordinate counted from the least of 32 bits
abbrev pub rank : ℤ → ℕ
rank (pos n) = 2 ^ 31 + n
rank (negsuc n) = 2 ^ 31 - suc n

-- the four bytes of the key
abbrev pub key : ℤ → List ℕ
key x = to_be_bytes w32 (rank x)
