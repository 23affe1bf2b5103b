-- Numbers and coordinates in bytes.
use Rattle.std.specs.Prelude.{ℕ, ◌+◌, ◌-◌, ◌*◌, ◌^◌, ◌<◌, List, [], ◌∷◌, ◌++◌, replicate, length, ℤ, pos, negsuc}
use Rattle.std.specs.Prelude.{if◌then◌else◌, nat_lt, All}

-- the number that the bytes spell, the greatest byte first
abbrev pub number_of : List ℕ → ℕ
number_of [] = 0
number_of (b ∷ bytes) = b * 256 ^ length bytes + number_of bytes

-- the coordinate of which the four bytes are the sortable key
unfoldable pub coordinate : List ℕ → ℤ
coordinate bytes =
    if nat_lt (number_of bytes) (2 ^ 31) then negsuc (2 ^ 31 - 1 - number_of bytes) else pos (number_of bytes - 2 ^ 31)

abbrev pub AreBytes : List ℕ → Type 0
AreBytes bytes = All (λ b. b < 256) bytes

-- pairs of a byte and a length less 1: each byte as often as its length says
abbrev pub pairs_expanded : List ℕ → List ℕ
pairs_expanded [] = []
pairs_expanded (b ∷ []) = []
pairs_expanded (b ∷ l ∷ bytes) = replicate (l + 1) b ++ pairs_expanded bytes
