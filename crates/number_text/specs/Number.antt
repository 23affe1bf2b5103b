-- How this project writes numbers in its texts: the words of a script and the fields of a CSV file.
use Rattle.std.specs.Prelude.{ℕ, ◌^◌, ◌-◌, ◌==◌, ◌&&◌, nat_lt, nat_le, if◌then◌else◌, List, [], ◌∷◌, length, Option}
use Rattle.std.specs.Prelude.{Some, None, option_map, ℤ, pos, neg_ℤ}
use Rattle.std.specs.Str.{all_ascii_digits}
use Rattle.std.specs.Str.Parse.{digits_value}

-- the number that one or more decimal digits write, leading zeros allowed, where it is at most the limit
unfoldable pub number_up_to : ℕ → List ℕ → Option ℕ
number_up_to limit bs =
    if nat_lt 0 (length bs) && all_ascii_digits bs && nat_le (digits_value 10 bs) limit
    then Some (digits_value 10 bs)
    else None

-- a number of a script, such as a document's: digits alone, below 2 ^ 32
abbrev pub number : List ℕ → Option ℕ
number bs = number_up_to (2 ^ 32 - 1) bs

-- a coordinate: digits with or without a '-' before them, whose value is a signed number of 32 bits
unfoldable pub coordinate : List ℕ → Option ℤ
coordinate [] = None
coordinate (c ∷ cs) =
    if c == 45
    then option_map (λ n. neg_ℤ (pos n)) (number_up_to (2 ^ 31) cs)
    else option_map pos (number_up_to (2 ^ 31 - 1) (c ∷ cs))
