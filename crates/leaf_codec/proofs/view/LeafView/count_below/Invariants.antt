use Rattle.std.proofs.Common.{◌≡◌, ◌<◌, ◌≤◌, ◌-◌, ℕ, true, length, int_lt, int_le}
use Rattle.leaf_codec.proofs.Ascending.{coordinate_of}
use Rattle.leaf_codec.proofs.view.LeafView.count_below.Given as goal

abbrev pub invariant-loop-at : goal.invariant-loop-at
invariant-loop-at g l = record {
  near : l.from ≤ l.at;
  few : l.step ≤ 256;
  ordered : l.from ≤ l.end;
  within : l.end ≤ length l.self;
  below : (k : ℕ) → k < l.from → int_lt (coordinate_of l.d l.self k) l.x ≡ true;
  above : (k : ℕ) → l.end ≤ k → k < length l.self → int_le l.x (coordinate_of l.d l.self k) ≡ true;
}

abbrev pub decreases-loop-at : goal.decreases-loop-at
decreases-loop-at g l = l.end - l.from

abbrev pub invariant-loop-from : goal.invariant-loop-from
invariant-loop-from g l = record {
  ordered : l.from ≤ l.end;
  within : l.end ≤ length l.self;
  below : (k : ℕ) → k < l.from → int_lt (coordinate_of l.d l.self k) l.x ≡ true;
  above : (k : ℕ) → l.end ≤ k → k < length l.self → int_le l.x (coordinate_of l.d l.self k) ≡ true;
}

abbrev pub decreases-loop-from : goal.decreases-loop-from
decreases-loop-from g l = l.end - l.from
