use Rattle.std.proofs.Common.{◌≡◌, ◌<◌, ◌≤◌, ◌+◌, ◌-◌, ℕ}
use Rattle.std.specs.declared.cmp.Ordering.TheVariants.{Less}
use Rattle.leaf_codec.specs.LeafOrder.{leaf_cmp}
use Rattle.leaf_codec.specs.Raw.{raw_item}
use Rattle.leaf_codec.specs.Views.{raw_numbers_of, raw_keys_of}
use Rattle.leaf_codec.proofs.OrderedKeys.{word_of}
use Rattle.leaf_codec.proofs.in_order.climb.Given as goal

abbrev pub invariant-loop-i : goal.invariant-loop-i
invariant-loop-i g l = record {
  last : l.last ≡ word_of g.row.D (raw_numbers_of l.numbers) (raw_keys_of l.parts) l.d (l.i - 1);
  up : (k : ℕ) → l.from ≤ k + 1 → k + 1 < l.i
      → leaf_cmp l.d (raw_item g.row.D (raw_numbers_of l.numbers) (raw_keys_of l.parts) k)
      (raw_item g.row.D (raw_numbers_of l.numbers) (raw_keys_of l.parts) (k + 1)) ≡ Less;
}
