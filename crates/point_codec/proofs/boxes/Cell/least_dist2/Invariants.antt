-- The sum so far and that of the dimensions left make the whole; a square is below 2^64.
use Rattle.std.proofs.Common.{◌≡◌, ◌+◌, ◌*◌, ◌^◌, ◌≤◌, drop}
use Rattle.point_codec.specs.Points.{dist2}
use Rattle.point_codec.specs.Cells.{moved_between}
use Rattle.point_codec.proofs.boxes.Cell.least_dist2.Given as goal

abbrev pub invariant-loop-i : goal.invariant-loop-i
invariant-loop-i g l = record {
  whole : l.sum + dist2 (drop l.i l.p.c) (moved_between (drop l.i l.self.lo.c) (drop l.i l.self.hi.c) (drop l.i l.p.c))
      ≡ dist2 l.p.c (moved_between l.self.lo.c l.self.hi.c l.p.c);
  small : l.sum ≤ l.i * 2 ^ 64;
}
