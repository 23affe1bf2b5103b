use Rattle.std.proofs.Common.{◌≡◌, ◌≤◌, ◌++◌, take, length}
use Rattle.leaf_codec.specs.Words.{pairs_expanded}
use Rattle.leaf_codec.proofs.read_sorted.filled.Given as goal

abbrev pub invariant-loop-rest : goal.invariant-loop-rest
invariant-loop-rest l = record {
  long : length l.table ≡ 500;
  within : l.at ≤ l.count;
  filled : take l.at l.table ++ pairs_expanded l.rest ≡ pairs_expanded l.pieces;
}

abbrev pub decreases-loop-rest : goal.decreases-loop-rest
decreases-loop-rest l = length l.rest
