-- The nearest point is in the cell, and none is nearer.
use Rattle.std.proofs.Common.{rules, ◌≡◌, length, drop, sym, ◌∙◌, arith}
use Rattle.point_codec.specs.Points.{dist2}
use Rattle.point_codec.specs.Cells.{nearest_in, moved_between}
use Rattle.point_codec.specs.Seen.{region_of}
use Rattle.point_codec.proofs.Distances.{dist2_done, nearest_is_in, nearest_is_least}
use Rattle.point_codec.proofs.boxes.Cell.least_dist2.Goals as goal

pub returns-clause-bound : goal.returns-clause-bound
returns-clause-bound g c q h =
    let long : length c.args.p.now.c ≡ g.row.D = search rules in
    let none = dist2_done c.args.p.now.c
    (moved_between (drop c.loop-i.i c.args.self.now.lo.c) (drop c.loop-i.i c.args.self.now.hi.c) (drop c.loop-i.i c.args.p.now.c)) c.loop-i.i
    (omega (arith, long, c.loop-i-test.false)) in
    let value : c.loop-i.sum ≡ dist2 c.args.p.now.c (nearest_in (region_of c.args.self.now) c.args.p.now.c) = omega (arith, c.loop-i.invariant.whole, none) in
    rw value (nearest_is_least (region_of c.args.self.now) c.args.p.now.c q h)

pub returns-clause-reached : goal.returns-clause-reached
returns-clause-reached g c =
    let low : length c.args.self.now.lo.c ≡ g.row.D = search rules in
    let long : length c.args.p.now.c ≡ g.row.D = search rules in
    nearest_is_in (region_of c.args.self.now) c.args.p.now.c c.args.self.now.ordered (long ∙ sym low)
