use Rattle.std.proofs.Common.{◌≡◌, ◌%◌, length}
use Rattle.leaf_codec.specs.Words.{AreBytes}
use Rattle.leaf_codec.proofs.SpelledPieces.{IsCut}
use Rattle.leaf_codec.proofs.read_sorted.are_cut.Given as goal

-- the whole is cut right exactly where the rest is
abbrev pub invariant-loop-rest : goal.invariant-loop-rest
invariant-loop-rest l = record {
  even : length l.rest % 2 ≡ 0;
  bytes : AreBytes l.rest;
  onward : IsCut l.spelled → IsCut l.rest;
  back : IsCut l.rest → IsCut l.spelled;
}

abbrev pub decreases-loop-rest : goal.decreases-loop-rest
decreases-loop-rest l = length l.rest
