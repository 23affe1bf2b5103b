use Rattle.std.proofs.Common.{◌≡◌, drop}
use Rattle.std.specs.List.{list_any}
use Rattle.point_codec.specs.Seen.{coordinates_of}
use Rattle.documents.proofs.scan.has_some.Given as goal

-- what is left decides, by the same test
abbrev pub invariant-loop-point : goal.invariant-loop-point
invariant-loop-point g l = record {
  left : list_any (g.S.Shape.has l.shape) (coordinates_of (drop l.point-index l.points)) ≡ list_any (g.S.Shape.has l.fn.shape) (coordinates_of l.points);
  same : g.S.Shape.has l.shape ≡ g.S.Shape.has l.fn.shape;
}
