use Rattle.std.proofs.Common.{◌≡◌, ◌-◌, ◌++◌, take}
use Rattle.std.specs.List.{flat_map}
use Rattle.leaf_codec.specs.Entries.{docs_of}
use Rattle.leaf_codec.specs.Spelling.{low_bytes}
use Rattle.leaf_codec.proofs.write_numbers.put_offsets.Given as goal

abbrev pub invariant-loop-entry : goal.invariant-loop-entry
invariant-loop-entry g l = l.out.items ≡ l.initial.out.items ++ flat_map (λ n. low_bytes l.width (n - l.least)) (take l.entry-index (docs_of l.entries))
