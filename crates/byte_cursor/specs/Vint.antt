-- A vint: a number in groups of seven bits, the least group first, each but the last marked by the high bit.
use Rattle.std.specs.Prelude.{◌≡◌, ◌<◌, ◌≤◌, ℕ, zero, suc, ◌+◌, ◌/◌, ◌%◌, ◌^◌, List, [], ◌∷◌, ◌++◌, length, All}
use Rattle.std.specs.Prelude.{if◌then◌else◌, nat_lt}

-- The bytes are the canonical vint of the number (this project's form of LEB128): a byte below 128 is
-- the last one and stands for itself; a byte from 128 on holds the low seven bits, and the bytes after it
-- are the vint of what is left, which isn't zero. So no number has a longer form with zero groups.
unfoldable pub IsVint : List ℕ → ℕ → Type 0
IsVint [] n = ⊥
IsVint (b ∷ []) n = (n < 128) × (b ≡ n)
IsVint (b ∷ c ∷ bytes) n = (128 ≤ n) × (b ≡ 128 + n % 128) × IsVint (c ∷ bytes) (n / 128)

-- the bytes begin with the vint of the number, and the rest follows
pub record BeginsWithVint (bytes : List ℕ) (n : ℕ) (rest : List ℕ) : Type 0 where
  pub front : List ℕ
  pub is_vint : IsVint front n
  pub parts : bytes ≡ front ++ rest

-- the bytes begin with the vint of a number of 32 bits
pub record HasVint (bytes : List ℕ) : Type 0 where
  pub number : ℕ
  pub fits : number < 2 ^ 32
  pub rest : List ℕ
  pub begins : BeginsWithVint bytes number rest

-- the bytes end inside a vint: there are fewer than the five that a number of 32 bits may take, and each says
-- that another one follows
abbrev pub IsCutVint : List ℕ → Type 0
IsCutVint bytes = (length bytes < 5) × All (λ b. 128 ≤ b) bytes

-- new is old with the vint of the number at its end
pub record AppendsVint (old new : List ℕ) (n : ℕ) : Type 0 where
  pub spelling : List ℕ
  pub is_vint : IsVint spelling n
  pub joined : new ≡ old ++ spelling

-- ---- the vint as a function, of which a format that is a function of what it spells is made

-- n in groups of seven bits, the least first, the high bit set on each but the last; at most k more groups follow
abbrev pub vint_groups : ℕ → ℕ → List ℕ
vint_groups zero n = n ∷ []
vint_groups (suc k) n = if nat_lt n 128 then n ∷ [] else (128 + n % 128) ∷ vint_groups k (n / 128)

-- the vint of a number below 2 ^ 35: at most five bytes
unfoldable pub vint : ℕ → List ℕ
vint = vint_groups 4
