-- What a read or a write that stops in the middle leaves.
use Rattle.std.specs.Prelude.{◌≡◌, ℕ, List, ◌++◌}

-- old became new by taking a prefix of bytes, perhaps an empty one, perhaps all of them
pub record WritesPart (old new bytes : List ℕ) : Type 0 where
  pub sent : List ℕ
  pub rest : List ℕ
  pub whole : bytes ≡ sent ++ rest
  pub grew : new ≡ old ++ sent

-- what was old is new by taking some bytes, perhaps none or all, from the front
pub record ReadsPart (old new : List ℕ) : Type 0 where
  pub taken : List ℕ
  pub whole : old ≡ taken ++ new
