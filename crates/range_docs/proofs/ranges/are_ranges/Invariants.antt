use Rattle.std.proofs.Common.{◌≡◌, ◌/◌, take, true}
use Rattle.std.specs.List.{list_all}
use Rattle.range_docs.specs.Ranges.{range_of, is_range}
use Rattle.range_docs.proofs.ranges.are_ranges.Given as goal

abbrev pub invariant-loop-p : goal.invariant-loop-p
invariant-loop-p g l = list_all (λ p. is_range (range_of (g.row.D / 2) p.c)) (take l.p-index l.points) ≡ true
