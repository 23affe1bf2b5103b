use Rattle.std.proofs.Common.{◌≡◌, length, map, take}
use Rattle.point_codec.specs.Keys.{key}
use Rattle.inner_pack.proofs.index.keys_of.Given as goal

abbrev pub invariant-loop-d : goal.invariant-loop-d
invariant-loop-d g l = record {
  long : length l.keys ≡ g.row.D;
  filled : take l.d l.keys ≡ map key (take l.d l.c);
}
