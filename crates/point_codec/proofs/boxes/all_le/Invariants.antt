use Rattle.std.proofs.Common.{◌≡◌, drop}
use Rattle.point_codec.specs.Points.{all_le}
use Rattle.point_codec.proofs.boxes.all_le.Given as goal

-- the dimensions that are left decide, since those before hold
abbrev pub invariant-loop-i : goal.invariant-loop-i
invariant-loop-i l = all_le (drop l.i l.a) (drop l.i l.b) ≡ all_le l.a l.b
