use Rattle.std.proofs.Common.{◌≡◌, ◌*◌, take, length}
use Rattle.std.specs.List.{flat_map}
use Rattle.point_codec.specs.Keys.{key}
use Rattle.inner_pack.proofs.fields.point_of.Given as goal

abbrev pub invariant-loop-d : goal.invariant-loop-d
invariant-loop-d g l = record {
  long : length l.c ≡ g.row.D;
  read : flat_map key (take l.d l.c) ≡ take (4 * l.d) l.front;
}
