use Rattle.std.proofs.Common.{◌≡◌, ◌≤◌, ◌<◌, ℕ, true, get_or, length}
use Rattle.std.specs.List.{All}
use Rattle.point_codec.specs.Seen.{items_of}
use Rattle.leaf_codec.specs.Dimensions.{shared_prefix, varies, spread}
use Rattle.leaf_codec.proofs.dimensions.Dimensions.of.Given as goal

abbrev pub invariant-loop-d : goal.invariant-loop-d
invariant-loop-d g l = record {
  lengths : (k : ℕ) → k < l.d → get_or l.lengths k 0 ≡ shared_prefix k (items_of l.entries);
  spreads : (k : ℕ) → k < l.d → varies (items_of l.entries) k ≡ true → get_or l.spreads k 0 ≡ spread (items_of l.entries) k;
  long : length l.lengths ≡ g.row.D;
  wide : length l.spreads ≡ g.row.D;
  few : All (λ (n : ℕ). n ≤ 256) l.spreads;
}
