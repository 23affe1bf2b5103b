-- What a write and then a flush do to the bytes that a writer holds, where those are known.
use Rattle.std.specs.Prelude.{ℕ, List, Option, Result, MatchResult, take}
use Rattle.std.specs.Io.KnownBytes.{Appends}

-- the n bytes that it took at `Ok(n)` were appended, and a prefix, perhaps an empty one, at `Err`
abbrev pub WritesFlushed : {E : Type 0} → Option (List ℕ) → Option (List ℕ) → Result ℕ E → List ℕ → Type 0
WritesFlushed old new r b = MatchResult r (λ n. Appends old new (take n b)) (λ _. (n : ℕ) × Appends old new (take n b))
