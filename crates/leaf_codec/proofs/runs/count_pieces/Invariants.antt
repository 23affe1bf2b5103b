use Rattle.std.proofs.Common.{◌≡◌, ◌≤◌, ◌+◌, length}
use Rattle.leaf_codec.specs.Spelling.{pieces}
use Rattle.leaf_codec.proofs.runs.count_pieces.Given as goal

abbrev pub invariant-loop-rest : goal.invariant-loop-rest
invariant-loop-rest l = record {
  counted : l.count + length (pieces l.rest) ≡ length (pieces l.bytes);
  few : l.count + length l.rest ≤ length l.bytes;
}

abbrev pub decreases-loop-rest : goal.decreases-loop-rest
decreases-loop-rest l = length l.rest
