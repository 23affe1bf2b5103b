-- Why rings are no polygon.
use Rattle.std.specs.Prelude.{◌≡◌, ℕ, ◌≤◌, ◌<◌, ◌-◌, ◌^◌, min, ℤ, List, length, take, sum_by, All, slice_index_or, []}
use Rattle.ring_parity.specs.Rings.{IsClosed, IsLinearRing}
use Rattle.ring_parity.specs.declared.rings.RingFault.{RingFault}
use Rattle.ring_parity.specs.declared.rings.RingFault.TheVariants.{TooMany, TooFew, NotClosed}

-- the rings have at most 65,536 positions in all, and the first that is no linear ring is this one
pub record IsFirstFaulty (rings : List (List (List ℤ))) (ring : ℕ) : Type 0 where
  pub few : sum_by length rings ≤ 2 ^ 16
  pub there : ring < length rings
  pub before : All IsLinearRing (take ring rings)

-- too many positions come first, then the first ring that is too short or open. A number of positions above the
-- greatest of 64 bits is told as that
abbrev pub IsFault : List (List (List ℤ)) → RingFault → Type 0
IsFault rings (TooMany positions) = (2 ^ 16 < sum_by length rings)
    × (positions ≡ min (sum_by length rings) (2 ^ 64 - 1))
IsFault rings (TooFew ring) = IsFirstFaulty rings ring × (length (slice_index_or rings ring []) < 4)
IsFault rings (NotClosed ring) =
    IsFirstFaulty rings ring × (4 ≤ length (slice_index_or rings ring [])) × ¬ (IsClosed (slice_index_or rings ring []))
