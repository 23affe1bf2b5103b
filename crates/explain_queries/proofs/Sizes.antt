-- What a set takes in memory that answers lines.
use Rattle.std.proofs.Common.{ℕ, ◌+◌, ◌<◌, ◌≤◌, ◌^◌, lit<}
use prog.Memory.{up}
use Rattle.index_model.proofs.Sizes.{fits_all}
use Rattle.segment_set.proofs.Sizes.{set_size}

abbrev pub explaining_size : ℕ → ℕ
explaining_size n = up 8 (0 + set_size n)

pub explaining_fits : (n : ℕ) → n ≤ 8 → explaining_size n < 2 ^ 63
explaining_fits = fits_all explaining_size
    (lit< tt) (lit< tt) (lit< tt) (lit< tt) (lit< tt) (lit< tt) (lit< tt) (lit< tt) (lit< tt)
