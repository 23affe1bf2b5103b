use Rattle.std.proofs.Common.{◌≡◌, take}
use Rattle.leaf_codec.specs.Entries.{docs_of}
use Rattle.segment_build.proofs.build.numbers_of.Given as goal

abbrev pub invariant-loop-entry : goal.invariant-loop-entry
invariant-loop-entry g l = l.numbers.items ≡ take l.entry-index (docs_of l.entries)
