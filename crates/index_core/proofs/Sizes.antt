-- What a session and a box take in memory.
use Rattle.std.proofs.Common.{ℕ, ◌+◌, ◌*◌, ◌<◌, ◌≤◌, ◌^◌, max, lit<}
use prog.Memory.{up}
use Rattle.index_model.proofs.Sizes.{fits_all}

abbrev pub session_size : ℕ → ℕ
session_size n = up 8 (up 1 (up 8
    (up 4 (0 + up 8
    (up 8 (up 8 (144
    + up 8 (max 1
    (max (8 + up 8
    (24 + up 8 (max 1
    (max (8 + up 8 (up 8 (up 4 (up 2 (0 + up 8 (up 8 (0 + up 8 (up 8 (12 + up 4 (up 4 (0 + up 4 (0 + n * 4)) + up 4 (0 + n * 4))) + 24)) + 24)) + 2) + 4) + 40))
    1)))) 1))) + 168) + 56)) + 8) + 56) + 1)

pub session_fits : (n : ℕ) → n ≤ 8 → session_size n < 2 ^ 63
session_fits = fits_all session_size
    (lit< tt) (lit< tt) (lit< tt) (lit< tt) (lit< tt) (lit< tt) (lit< tt) (lit< tt) (lit< tt)

abbrev pub box_size : ℕ → ℕ
box_size n = up 8 (up 8 (up 8 (up 4 (0 + up 4 (0 + n * 4)) + up 4 (0 + n * 4)) + 8) + 8)

pub box_fits : (n : ℕ) → n ≤ 8 → box_size n < 2 ^ 63
box_fits = fits_all box_size
    (lit< tt) (lit< tt) (lit< tt) (lit< tt) (lit< tt) (lit< tt) (lit< tt) (lit< tt) (lit< tt)
