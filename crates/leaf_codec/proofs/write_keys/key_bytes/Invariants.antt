use Rattle.std.proofs.Common.{◌≡◌, take, map, length}
use Rattle.point_codec.specs.Seen.{items_of}
use Rattle.leaf_codec.specs.Dimensions.{key_byte}
use Rattle.leaf_codec.proofs.write_keys.key_bytes.Given as goal

abbrev pub invariant-loop-at : goal.invariant-loop-at
invariant-loop-at g l = record {
  long : length l.table ≡ 500;
  filled : take l.at l.table ≡ map (key_byte l.d l.i) (take l.at (items_of l.entries));
}
