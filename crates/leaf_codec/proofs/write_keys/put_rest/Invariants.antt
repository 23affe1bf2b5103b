use Rattle.std.proofs.Common.{◌≡◌, ◌<◌, ◌++◌, ℕ, drop, length, get_or, pos, w32}
use Rattle.std.specs.Prelude.{FitsSigned}
use Rattle.std.specs.List.{flat_map, range_with_len}
use Rattle.leaf_codec.specs.Dimensions.{key_of, told_of}
use Rattle.leaf_codec.specs.LeafOrder.{item_of}
use Rattle.leaf_codec.proofs.write_keys.put_rest.Given as goal

abbrev pub invariant-loop-d : goal.invariant-loop-d
invariant-loop-d g l = record {
  long : 0 < l.d → length l.entry.point.c ≡ g.row.D;
  fits : (k : ℕ) → k < l.d → FitsSigned w32 (get_or l.entry.point.c k (pos 0));
  written : l.out.items
      ≡ l.initial.out.items ++ flat_map (λ d. drop (told_of l.dimensions.lengths l.dimensions.sorted d) (key_of d (item_of l.entry))) (range_with_len 0 l.d);
}
