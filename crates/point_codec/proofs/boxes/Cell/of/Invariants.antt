-- The least cell round the first point and those of the entries passed.
use Rattle.std.proofs.Common.{◌∷◌, map, take}
use Rattle.point_codec.specs.Cells.{IsLeastCell}
use Rattle.point_codec.proofs.boxes.Cell.of.Given as goal

abbrev pub invariant-loop-entry : goal.invariant-loop-entry
invariant-loop-entry g l = IsLeastCell (l.initial.lo.0 ∷ map (λ e. e.point.c) (take l.entry-index l.rest)) (record { lo = l.lo.0; hi = l.hi.0 })
