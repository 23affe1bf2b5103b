use Rattle.std.proofs.Common.{◌≡◌, get_or, take, min}
use Rattle.std.specs.List.{fold}
use Rattle.leaf_codec.specs.Entries.{docs_of}
use Rattle.leaf_codec.proofs.write_numbers.least.Given as goal

abbrev pub invariant-loop-entry : goal.invariant-loop-entry
invariant-loop-entry g l = l.least ≡ fold min (get_or (docs_of l.entries) 0 0) (take l.entry-index (docs_of l.entries))
