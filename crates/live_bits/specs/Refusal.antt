-- Why bytes are not read as live bits.
use Rattle.std.specs.Prelude.{◌≡◌, ℕ, List}
use Rattle.live_bits.specs.declared.fault.BitsFault.{BitsFault}
use Rattle.live_bits.specs.declared.fault.BitsFault.TheVariants.{NotBits, Memory}
use Rattle.live_bits.specs.LiveBody.{HasNoSet}

-- the bytes are no body and are handed back, or memory is wanting
abbrev pub Refuses : ℕ → ℕ → List ℕ → BitsFault → Type 0
Refuses segment generation bytes (NotBits b) = (b ≡ bytes) × HasNoSet segment generation bytes
Refuses segment generation bytes Memory = Unit {0}
