-- What entries and queries take in memory.
use Rattle.std.proofs.Common.{ℕ, ◌+◌, ◌*◌, ◌<◌, ◌≤◌, ◌^◌, max, lit<}
use prog.Memory.{up}
use Rattle.index_model.proofs.Sizes.{fits_all}

abbrev pub query_size : ℕ → ℕ
query_size n = up 8 (max (up 4 (4 + up 4 (0 + n * 4)) + up 4 (0 + n * 4)) (max 32 (max (4 + up 4 (0 + n * 4)) 1)))

pub query_fits : (n : ℕ) → n ≤ 8 → query_size n < 2 ^ 63
query_fits = fits_all query_size
    (lit< tt) (lit< tt) (lit< tt) (lit< tt) (lit< tt) (lit< tt) (lit< tt) (lit< tt) (lit< tt)
