-- What the generator draws: a multiplicative congruential generator (Lehmer) with Park and Miller's later factor.
use Rattle.std.specs.Prelude.{ℕ, zero, suc, ◌+◌, ◌*◌, ◌%◌, List, [], ◌∷◌, map, ℤ, pos, ◌-ℤ◌}
use Rattle.std.specs.List.{range_with_len}

-- the draw that comes after the draw x, or after the seed x
abbrev pub next : ℕ → ℕ
next x = 48271 * x % 2147483647

-- the i-th draw of a seed, counted from 1; the seed stands before them
unfoldable pub draw : ℕ → ℕ → ℕ
draw seed zero = seed
draw seed (suc i) = next (draw seed i)

-- the coordinate of a draw: from -100,000 to 100,000
abbrev pub coordinate : ℕ → ℤ
coordinate drawn = pos (drawn % 200001) -ℤ pos 100000

-- the i-th point of a seed in two dimensions, counted from 0: of the draws 2i + 1 and 2i + 2, dimension 0 first
abbrev pub point : ℕ → ℕ → List ℤ
point seed i = coordinate (draw seed (2 * i + 1)) ∷ coordinate (draw seed (2 * i + 2)) ∷ []

-- n points of a seed, from the i-th on
abbrev pub points : ℕ → ℕ → ℕ → List (List ℤ)
points seed i n = map (point seed) (range_with_len i n)
