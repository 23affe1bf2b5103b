-- What entries and points take in memory.
use Rattle.std.proofs.Common.{ℕ, ◌+◌, ◌*◌, ◌<◌, ◌≤◌, ◌^◌, max, lit<}
use prog.Memory.{up}
use Rattle.index_model.proofs.Sizes.{fits_all}

abbrev pub point_size : ℕ → ℕ
point_size n = up 4 (0 + n * 4)

pub point_fits : (n : ℕ) → n ≤ 8 → point_size n < 2 ^ 63
point_fits = fits_all point_size
    (lit< tt) (lit< tt) (lit< tt) (lit< tt) (lit< tt) (lit< tt) (lit< tt) (lit< tt) (lit< tt)

abbrev pub set_size : ℕ → ℕ
set_size n = up 8 (up 8 (up 8
    (144 + up 8 (max 1
    (max (8 + up 8
    (24 + up 8 (max 1
    (max (8 + up 8 (up 8 (up 4 (up 2 (0 + up 8 (up 8 (0 + up 8 (up 8 (12 + up 4 (up 4 (0 + up 4 (0 + n * 4)) + up 4 (0 + n * 4))) + 24)) + 24)) + 2) + 4) + 40))
    1)))) 1))) + 168) + 56)

pub set_fits : (n : ℕ) → n ≤ 8 → set_size n < 2 ^ 63
set_fits = fits_all set_size
    (lit< tt) (lit< tt) (lit< tt) (lit< tt) (lit< tt) (lit< tt) (lit< tt) (lit< tt) (lit< tt)

-- a segment that is built
abbrev pub region_size : ℕ → ℕ
region_size n = up 4 (up 4 (0 + up 4 (0 + n * 4)) + up 4 (0 + n * 4))

abbrev pub built_size : ℕ → ℕ
built_size n = up 8 (up 8 (up 4 (up 2 (0 + up 8 (up 8 (0 + up 8 (up 8 (12 + region_size n) + 24)) + 24)) + 2) + 4) + 40)

pub built_fits : (n : ℕ) → n ≤ 8 → built_size n < 2 ^ 63
built_fits = fits_all built_size
    (lit< tt) (lit< tt) (lit< tt) (lit< tt) (lit< tt) (lit< tt) (lit< tt) (lit< tt) (lit< tt)
