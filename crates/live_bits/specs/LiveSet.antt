-- The live documents of a segment, as a set of numbers.
use Rattle.std.specs.Prelude.{◌≡◌, ◌≤◌, ◌<◌, ℕ, ◌+◌, Bool, not, nat_eq, List, [], length, filter, All, Contains}
use Rattle.std.specs.List.{list_any}
use Rattle.std.specs.List.Sorted.{IsStrictlyIncreasing}

-- live numbers lie from base to below base + span, and are listed in ascending order
pub record LiveSet : Type 0 where
  pub base : ℕ
  pub span : ℕ
  pub live : List ℕ

-- whether the number is live
unfoldable pub is_live : LiveSet → ℕ → Bool
is_live s n = list_any (λ d. nat_eq d n) s.live

-- the set without one number; base and span stay
abbrev pub live_set_without : ℕ → LiveSet → LiveSet
live_set_without doc s = record { base = s.base; span = s.span; live = filter (λ n. not (nat_eq n doc)) s.live }

-- what each set keeps; there are at most 16,777,216 document numbers
pub record IsLiveSet (s : LiveSet) : Type 0 where
  pub limit : s.base + s.span ≤ 16777216
  pub within : All (λ n. (s.base ≤ n) × (n < s.base + s.span)) s.live
  pub ascending : IsStrictlyIncreasing s.live

-- base is the least of the numbers and the span reaches to the greatest; both are 0 where there is none
pub record Spans (base span : ℕ) (docs : List ℕ) : Type 0 where
  pub empty : docs ≡ [] → (base ≡ 0) × (span ≡ 0)
  pub least : 0 < length docs → Contains docs base × All (λ d. base ≤ d) docs
  pub greatest : 0 < length docs → (last : ℕ) × (base + span ≡ last + 1) × Contains docs last × All (λ d. d ≤ last) docs
