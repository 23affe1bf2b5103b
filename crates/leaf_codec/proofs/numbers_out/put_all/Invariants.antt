use Rattle.std.proofs.Common.{◌≡◌, ◌+◌, ◌++◌, take}
use Rattle.leaf_codec.specs.Raw.{raw_docs}
use Rattle.leaf_codec.specs.Views.{raw_numbers_of}
use Rattle.leaf_codec.proofs.numbers_out.put_all.Given as goal

abbrev pub invariant-loop-i : goal.invariant-loop-i
invariant-loop-i l = take (l.at + l.i) l.out ≡ take l.at l.initial.out ++ raw_docs l.i (raw_numbers_of l.numbers)
