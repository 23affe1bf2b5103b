use Rattle.std.proofs.Common.{◌≡◌, ◌+◌, ◌*◌, ◌++◌, length, take}
use Rattle.std.specs.List.{flat_map}
use Rattle.point_codec.specs.Keys.{key}
use Rattle.inner_pack.proofs.cells.put_keys.Given as goal

abbrev pub invariant-loop-x : goal.invariant-loop-x
invariant-loop-x l = record {
  spelled : l.out.items ≡ l.initial.out.items ++ flat_map key (take l.x-index l.coordinates);
  room : length l.out.items ≡ length l.initial.out.items + 4 * l.x-index;
}
