use Rattle.std.proofs.Common.{◌≡◌, ◌++◌}
use Rattle.std.specs.List.{flat_map, range_with_len}
use Rattle.point_codec.specs.Seen.{items_of}
use Rattle.leaf_codec.specs.Spelling.{shared_bytes}
use Rattle.leaf_codec.proofs.write_keys.put_prefixes.Given as goal

abbrev pub invariant-loop-d : goal.invariant-loop-d
invariant-loop-d g l = l.out.items ≡ l.initial.out.items ++ flat_map (λ d. shared_bytes d (items_of l.entries)) (range_with_len 0 l.d)
