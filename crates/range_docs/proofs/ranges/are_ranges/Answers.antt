use Rattle.std.proofs.Common.{◌/◌, sym, ◌∙◌, take_all}
use Rattle.std.proofs.lemmas.List.Folds.{list_all-map, list_all_at}
use Rattle.point_codec.specs.declared.coordinates.Point.{Point}
use Rattle.range_docs.specs.Ranges.{range_of, is_range}
use Rattle.range_docs.proofs.ranges.are_ranges.Goals as goal

pub returns-then-not-is_range : goal.returns-then-not-is_range
returns-then-not-is_range g c =
    sym (list_all-map (λ p. is_range (range_of (g.row.D / 2) p)) (λ (p : Point g.row.D). p.c) c.args.points.now
    ∙ list_all_at (λ p. is_range (range_of (g.row.D / 2) p.c)) c.args.points.now c.loop-p.p-index c.p-item.result c.loop-p-test.true
    (rw (← c.p-item.is) (sym c.is_range.ensures ∙ c.if-not-is_range.true)))

pub returns : goal.returns
returns g c =
    sym (list_all-map (λ p. is_range (range_of (g.row.D / 2) p)) (λ (p : Point g.row.D). p.c) c.args.points.now
    ∙ rw (take_all c.loop-p.p-index c.args.points.now c.loop-p-test.false) at c.loop-p.invariant)
