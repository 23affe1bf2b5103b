use Rattle.std.proofs.Common.{◌<◌, length}
use Rattle.merge_policy.proofs.Front.{IsFront}
use Rattle.merge_policy.proofs.first_ten.Given as goal

abbrev pub invariant-loop-i : goal.invariant-loop-i
invariant-loop-i l = record {
  front : IsFront l.level.number l.sizes l.pinned l.i l.positions.items;
  room : length l.positions.items < 10;
}
