use Rattle.std.proofs.Common.{◌≡◌, ◌-◌, ◌++◌, take, length, replicate}
use Rattle.leaf_codec.proofs.read_sorted.fill.Given as goal

abbrev pub invariant-loop-i : goal.invariant-loop-i
invariant-loop-i l = record {
  long : length l.table ≡ 500;
  filled : take l.i l.table ≡ take l.at l.initial.table ++ replicate (l.i - l.at) l.byte;
}
