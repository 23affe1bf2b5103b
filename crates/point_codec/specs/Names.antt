-- The names of snapshots: which bytes are a name, and how a name is kept in 32 bytes.
use Rattle.std.specs.Prelude.{ℕ, ◌≡◌, ◌≤◌, ◌-◌, Bool, true, ◌&&◌, ◌||◌, List, ◌++◌, length, take, drop, replicate}
use Rattle.std.specs.Prelude.{nat_le, ◌==◌}
use Rattle.std.proofs.Common.{arith, take-append-drop, length-take-le}
use Rattle.std.specs.List.{list_all}

-- an ASCII letter, a digit, `_` or `-`
abbrev pub is_name_byte : ℕ → Bool
is_name_byte b =
    nat_le 65 b && nat_le b 90 || nat_le 97 b && nat_le b 122 || nat_le 48 b && nat_le b 57 || b == 95 || b == 45

-- 1 to 32 of these bytes
abbrev pub is_name : List ℕ → Bool
is_name bytes = nat_le 1 (length bytes) && nat_le (length bytes) 32 && list_all is_name_byte bytes

-- bytes of which the first len are a name, and the others of 32 are zero
pub record IsPadded (len : ℕ) (bytes : List ℕ) : Type 0 where
  pub fits : len ≤ 32
  pub long : length bytes ≡ 32
  pub rest : drop len bytes ≡ replicate (32 - len) 0
  pub named : is_name (take len bytes) ≡ true

-- the bytes are the name and its padding
pub padded_again : (len : ℕ) (bytes : List ℕ) → IsPadded len bytes
    → take len bytes ++ replicate (32 - length (take len bytes)) 0 ≡ bytes
padded_again len bytes p =
    let long : len ≤ length bytes = omega (arith, p.fits, p.long) in
    rw (length-take-le len bytes long) (rw (← p.rest) (take-append-drop len bytes))

pub padded_length : (len : ℕ) (bytes : List ℕ) → IsPadded len bytes → length (take len bytes) ≡ len
padded_length len bytes p =
    let long : len ≤ length bytes = omega (arith, p.fits, p.long) in
    length-take-le len bytes long
