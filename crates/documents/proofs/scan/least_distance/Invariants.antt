use Rattle.std.proofs.Common.{◌≡◌, drop, fold, map, min}
use Rattle.point_codec.specs.Points.{dist2}
use Rattle.documents.specs.Nearest.{distance}
use Rattle.point_codec.specs.Seen.{coordinates_of}
use Rattle.documents.proofs.scan.least_distance.Given as goal

-- the least so far and what is left give the least of all
abbrev pub invariant-loop-point : goal.invariant-loop-point
invariant-loop-point g l = fold min l.least (map (λ p. dist2 p l.at.c) (coordinates_of (drop l.point-index l.rest))) ≡ distance l.at.c (coordinates_of l.points)
