use Rattle.std.proofs.Common.{◌≡◌, ◌<◌, ℕ, ℤ, get_or, length}
use Rattle.leaf_codec.specs.Words.{coordinate}
use Rattle.leaf_codec.specs.Raw.{key_at}
use Rattle.leaf_codec.specs.Views.{raw_keys_of}
use Rattle.leaf_codec.proofs.read_parts.Slots.point.Given as goal

abbrev pub invariant-loop-d : goal.invariant-loop-d
invariant-loop-d g l = record {
  long : length l.c ≡ g.row.D;
  filled : (k : ℕ) (e : ℤ) → k < l.d → get_or l.c k e ≡ coordinate (key_at g.row.D (raw_keys_of l.parts) l.i k);
}
