use Rattle.std.proofs.Common.{◌≡◌, ◌++◌, length}
use Rattle.std.specs.List.{flat_map}
use Rattle.leaf_codec.specs.Spelling.{pieces, piece_bytes}
use Rattle.leaf_codec.proofs.write_keys.put_pieces.Given as goal

-- what is written and the pieces of the rest are all pieces
abbrev pub invariant-loop-rest : goal.invariant-loop-rest
invariant-loop-rest l = l.out.items ++ flat_map piece_bytes (pieces l.rest) ≡ l.initial.out.items ++ flat_map piece_bytes (pieces l.bytes)

abbrev pub decreases-loop-rest : goal.decreases-loop-rest
decreases-loop-rest l = length l.rest
