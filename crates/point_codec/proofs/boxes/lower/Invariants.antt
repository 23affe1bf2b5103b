-- The dimensions done, and those left, make the whole.
use Rattle.std.proofs.Common.{◌≡◌, ◌++◌, take, drop}
use Rattle.std.specs.Int.{int_min}
use Rattle.point_codec.specs.Cells.{by_dimension}
use Rattle.point_codec.proofs.boxes.lower.Given as goal

abbrev pub invariant-loop-i : goal.invariant-loop-i
invariant-loop-i l = take l.i l.corner ++ by_dimension int_min (drop l.i l.corner) (drop l.i l.p) ≡ by_dimension int_min l.initial.corner l.p
