use Rattle.std.proofs.Common.{take}
use Rattle.point_codec.specs.Seen.{items_of}
use Rattle.leaf_codec.proofs.Shared.{SharesSoFar}
use Rattle.leaf_codec.proofs.dimensions.shared_prefix.Given as goal

abbrev pub invariant-loop-entry : goal.invariant-loop-entry
invariant-loop-entry g l = SharesSoFar l.d (take l.entry-index (items_of l.entries)) l.first l.shared
