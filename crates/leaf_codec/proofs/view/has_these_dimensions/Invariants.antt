use Rattle.std.proofs.Common.{◌≡◌, ◌<◌, ◌≤◌, ◌+◌, ◌*◌, ℕ}
use Rattle.leaf_codec.specs.Raw.{RawNumbers, raw_items, place_of}
use Rattle.leaf_codec.specs.Views.{IsWide, raw_keys_of}
use Rattle.leaf_codec.proofs.view.has_these_dimensions.Given as goal

abbrev pub invariant-loop-d : goal.invariant-loop-d
invariant-loop-d g l = record {
  place : l.place ≡ 4 + place_of l.parts.lengths.now l.parts.sorted l.d;
  low : l.place ≤ 4 + 4 * l.d;
  wide : (n : RawNumbers) (k : ℕ) → k < l.d
      → IsWide (raw_items g.row.D l.parts.count n (raw_keys_of l.parts)) l.parts.lengths.now l.parts.sorted l.least k;
}
