-- Where numbers may be live.
use Rattle.std.specs.Prelude.{ℕ, ◌≡◌, ◌<◌, ◌≤◌, List}
use Rattle.live_bits.specs.LiveSet.{LiveSet}
use Rattle.stored_index.specs.Segments.{places}
use Rattle.document_checks.specs.declared.told.Misplaced.{Misplaced}
use Rattle.document_checks.specs.declared.told.Misplaced.TheVariants.{NotGiven, Doubled}

-- the number is live in one set at most, and from the next number on in none
abbrev pub IsPlacedOnce : ℕ → List LiveSet → ℕ → Type 0
IsPlacedOnce next sets number = (places number sets ≤ 1) × (next ≤ number → places number sets ≡ 0)

-- the number is live from the next number on, or below it in two sets, and each lesser number stands where it may
abbrev pub IsLeastMisplaced : ℕ → List LiveSet → Misplaced → Type 0
IsLeastMisplaced next sets (NotGiven n) = (next ≤ n) × (1 ≤ places n sets)
    × ((m : ℕ) → m < n → IsPlacedOnce next sets m)
IsLeastMisplaced next sets (Doubled n) = (n < next) × (2 ≤ places n sets) × ((m : ℕ) → m < n → IsPlacedOnce next sets m)
