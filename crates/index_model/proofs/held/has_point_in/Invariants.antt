use Rattle.std.proofs.Common.{◌≡◌, drop}
use Rattle.std.specs.List.{list_any}
use Rattle.point_codec.specs.Points.{in_box}
use Rattle.point_codec.specs.Seen.{coordinates_of}
use Rattle.index_model.proofs.held.has_point_in.Given as goal

abbrev pub invariant-loop-point : goal.invariant-loop-point
invariant-loop-point g l =
    list_any (in_box (record { lo = l.lo.c; hi = l.hi.c })) (coordinates_of (drop l.point-index l.points))
    ≡ list_any (in_box (record { lo = l.lo.c; hi = l.hi.c })) (coordinates_of l.points)
