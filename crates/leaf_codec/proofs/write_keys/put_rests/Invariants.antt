use Rattle.std.proofs.Common.{◌≡◌, ◌++◌, take}
use Rattle.std.specs.List.{flat_map, All}
use Rattle.point_codec.specs.Points.{Item}
use Rattle.leaf_codec.specs.Leaves.{IsPoint}
use Rattle.point_codec.specs.Seen.{items_of}
use Rattle.leaf_codec.specs.Spelling.{rest}
use Rattle.leaf_codec.proofs.write_keys.put_rests.Given as goal

abbrev pub invariant-loop-entry : goal.invariant-loop-entry
invariant-loop-entry g l = record {
  points : All (λ (x : Item). IsPoint g.row.D x.at) (take l.entry-index (items_of l.entries));
  written : l.out.items ≡ l.initial.out.items ++ flat_map (rest g.row.D (items_of l.entries)) (take l.entry-index (items_of l.entries));
}
