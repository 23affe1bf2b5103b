use Rattle.std.proofs.Common.{take, map}
use Rattle.point_codec.specs.Seen.{items_of}
use Rattle.leaf_codec.specs.Dimensions.{key_byte}
use Rattle.leaf_codec.proofs.SeenBytes.{HasSeen}
use Rattle.leaf_codec.proofs.dimensions.different.Given as goal

abbrev pub invariant-loop-entry : goal.invariant-loop-entry
invariant-loop-entry g l = HasSeen l.seen.seen (map (key_byte l.d l.i) (take l.entry-index (items_of l.entries)))
