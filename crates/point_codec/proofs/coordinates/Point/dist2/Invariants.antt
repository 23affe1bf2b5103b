use Rattle.std.proofs.Common.{◌≡◌, ◌+◌, ◌*◌, ◌^◌, ◌≤◌, drop}
use Rattle.point_codec.specs.Points.{dist2}
use Rattle.point_codec.proofs.coordinates.Point.dist2.Given as goal

-- the sum so far and that of the dimensions left make the whole; a square is below 2^64
abbrev pub invariant-loop-i : goal.invariant-loop-i
invariant-loop-i g l = record {
  whole : l.sum + dist2 (drop l.i l.self.c) (drop l.i l.other.c) ≡ dist2 l.self.c l.other.c;
  small : l.sum ≤ l.i * 2 ^ 64;
}
