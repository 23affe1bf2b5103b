use Rattle.std.proofs.Common.{true, false, sym, ap, ◌∙◌}
use Rattle.point_codec.specs.Seen.{region_of}
use Rattle.ring_parity.specs.Rings.{is_within}
use Rattle.polygon_query.proofs.PolygonRelation.{one_point}
use Rattle.polygon_query.proofs.polygon_shape.relation_of.Goals as goal

pub returns-then-contains-clause-told : goal.returns-then-contains-clause-told
returns-then-contains-clause-told c =
    one_point c.args.edges.now (region_of c.args.c.now) true c.args.c.now.ordered (sym c.any_meets.ensures.told ∙ c.if-any_meets.false)
    (c.any_meets.ensures.one_answer c.if-any_meets.false)
    (ap (λ edges. is_within edges c.args.c.now.lo.c) (sym c.any_meets.ensures.same) ∙ sym c.contains.ensures.told ∙ c.if-contains.true)

pub returns-else-contains-clause-told : goal.returns-else-contains-clause-told
returns-else-contains-clause-told c =
    one_point c.args.edges.now (region_of c.args.c.now) false c.args.c.now.ordered (sym c.any_meets.ensures.told ∙ c.if-any_meets.false)
    (c.any_meets.ensures.one_answer c.if-any_meets.false)
    (ap (λ edges. is_within edges c.args.c.now.lo.c) (sym c.any_meets.ensures.same) ∙ sym c.contains.ensures.told ∙ c.if-contains.false)
