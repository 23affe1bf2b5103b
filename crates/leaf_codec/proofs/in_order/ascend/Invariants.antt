use Rattle.std.proofs.Common.{◌≡◌, ◌<◌, ◌≤◌, ◌+◌, ◌-◌, ℕ}
use Rattle.std.specs.declared.cmp.Ordering.TheVariants.{Less}
use Rattle.leaf_codec.specs.LeafOrder.{leaf_cmp}
use Rattle.leaf_codec.specs.Raw.{raw_item}
use Rattle.leaf_codec.specs.Views.{raw_numbers_of, raw_keys_of}
use Rattle.leaf_codec.proofs.in_order.ascend.Given as goal

abbrev pub invariant-loop-at : goal.invariant-loop-at
invariant-loop-at g l = record {
  some : 1 ≤ l.at;
  within : l.at ≤ l.numbers.count;
  up : (k : ℕ) → k + 1 < l.at
      → leaf_cmp l.d (raw_item g.row.D (raw_numbers_of l.numbers) (raw_keys_of l.parts) k)
      (raw_item g.row.D (raw_numbers_of l.numbers) (raw_keys_of l.parts) (k + 1)) ≡ Less;
}

abbrev pub decreases-loop-at : goal.decreases-loop-at
decreases-loop-at g l = l.numbers.count - l.at
