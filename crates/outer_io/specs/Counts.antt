-- Counts that only rise, and stand still at the last value of u64.
use Rattle.std.specs.Prelude.{◌≡◌, ℕ, ◌+◌, ◌-◌, ◌^◌, ◌≤◌, min}

-- the count rose, or stands at the last value of u64
abbrev pub Rose : ℕ → ℕ → Type 0
Rose before now = min (before + 1) (2 ^ 64 - 1) ≤ now

-- the count rose by just one, or stands at the last value of u64
abbrev pub RisesByOne : ℕ → ℕ → Type 0
RisesByOne before now = now ≡ min (before + 1) (2 ^ 64 - 1)
