-- What points take in memory.
use Rattle.std.proofs.Common.{ℕ, zero, suc, ◌+◌, ◌*◌, ◌<◌, ◌≤◌, ◌^◌, lit<, arith}
use prog.Memory.{up}

pub entry_fits : (n : ℕ) → n ≤ 8 → up 4 (4 + up 4 (0 + n * 4)) < 2 ^ 63
entry_fits zero h = lit< tt
entry_fits (suc zero) h = lit< tt
entry_fits (suc (suc zero)) h = lit< tt
entry_fits (suc (suc (suc zero))) h = lit< tt
entry_fits (suc (suc (suc (suc zero)))) h = lit< tt
entry_fits (suc (suc (suc (suc (suc zero))))) h = lit< tt
entry_fits (suc (suc (suc (suc (suc (suc zero)))))) h = lit< tt
entry_fits (suc (suc (suc (suc (suc (suc (suc zero))))))) h = lit< tt
entry_fits (suc (suc (suc (suc (suc (suc (suc (suc zero)))))))) h = lit< tt
entry_fits (suc (suc (suc (suc (suc (suc (suc (suc (suc n))))))))) h = absurd (omega (arith, h))
