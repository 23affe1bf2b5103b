use Rattle.std.proofs.Common.{◌<◌, ℕ}
use Rattle.point_codec.specs.Seen.{region_of}
use Rattle.leaf_codec.specs.Views.{raw_keys_of}
use Rattle.leaf_codec.proofs.OrderedKeys.{AreWithin}
use Rattle.leaf_codec.proofs.in_order.lie_inside.Given as goal

abbrev pub invariant-loop-e : goal.invariant-loop-e
invariant-loop-e g l = (k : ℕ) → k < l.e → AreWithin g.row.D l.parts.count (raw_keys_of l.parts) (region_of l.cell) k
