-- What a type takes in memory that has as many coordinates as there are dimensions.
use Rattle.std.proofs.Common.{ℕ, zero, suc, ◌+◌, ◌*◌, ◌<◌, ◌≤◌, ◌^◌, max, lit<, arith}
use prog.Memory.{up}

-- a size that fits for each number of dimensions up to 8
pub fits_all : (size : ℕ → ℕ)
    → size 0 < 2 ^ 63 → size 1 < 2 ^ 63 → size 2 < 2 ^ 63 → size 3 < 2 ^ 63 → size 4 < 2 ^ 63
    → size 5 < 2 ^ 63 → size 6 < 2 ^ 63 → size 7 < 2 ^ 63 → size 8 < 2 ^ 63
    → (n : ℕ) → n ≤ 8 → size n < 2 ^ 63
fits_all size a b c d e f g h i zero _ = a
fits_all size a b c d e f g h i (suc zero) _ = b
fits_all size a b c d e f g h i (suc (suc zero)) _ = c
fits_all size a b c d e f g h i (suc (suc (suc zero))) _ = d
fits_all size a b c d e f g h i (suc (suc (suc (suc zero)))) _ = e
fits_all size a b c d e f g h i (suc (suc (suc (suc (suc zero))))) _ = f
fits_all size a b c d e f g h i (suc (suc (suc (suc (suc (suc zero)))))) _ = g
fits_all size a b c d e f g h i (suc (suc (suc (suc (suc (suc (suc zero))))))) _ = h
fits_all size a b c d e f g h i (suc (suc (suc (suc (suc (suc (suc (suc zero)))))))) _ = i
fits_all size a b c d e f g h i (suc (suc (suc (suc (suc (suc (suc (suc (suc n))))))))) few = absurd (omega (arith, few))

-- how many bytes a command takes in memory, in n dimensions
abbrev pub command_size : ℕ → ℕ
command_size n = up 8 (max 1
    (max 4 (max 32
    (max 8 (max (up 4 (4 + up 4 (0 + n * 4)) + up 4 (0 + n * 4))
    (max (up 4 (36 + up 4 (0 + n * 4)) + up 4 (0 + n * 4)) (max 64 (max (40 + up 4 (0 + n * 4)) 34))))))))

pub command_fits : (n : ℕ) → n ≤ 8 → command_size n < 2 ^ 63
command_fits = fits_all command_size
    (lit< tt) (lit< tt) (lit< tt) (lit< tt) (lit< tt) (lit< tt) (lit< tt) (lit< tt) (lit< tt)
