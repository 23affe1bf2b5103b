use Rattle.std.proofs.Common.{take}
use Rattle.point_codec.specs.Seen.{items_of}
use Rattle.bkd_build.proofs.Sides.{Reaches}
use Rattle.bkd_build.proofs.extents.ends.Given as goal

abbrev pub invariant-loop-entry : goal.invariant-loop-entry
invariant-loop-entry g l = Reaches l.d l.least l.greatest (take l.entry-index (items_of l.entries)) (items_of l.entries)
