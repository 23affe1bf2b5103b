-- A polygon is a shape of the plane.
use Rattle.std.proofs.Common.{Err, ap, refl, ◌∙◌}
use Rattle.std.proofs.lemmas.Result.{err_from_is_err_and}
use Rattle.page_cache.specs.declared.faults.PageFault.{PageFault}
use Rattle.polygon_query.specs.Shape.{CountedPolygon}
use Rattle.explain_queries.proofs.Explaining.{explains_as, explains_no_memory}
use Rattle.explain_queries.proofs.Asking.{polygon_from, polygon_to}
use Rattle.explain_queries.proofs.explain.tell_polygon.Goals as goal

pub returns-in_err-shape : goal.returns-in_err-shape
returns-in_err-shape g c =
    let p = err_from_is_err_and c.from_residual.result c.from_residual.ensures.1 in
    explains_no_memory g.row.D _ _ _ _ _ (p.1 ∙ ap (λ (e : PageFault). Err e) p.2) refl refl refl refl

pub returns : goal.returns
returns g c = explains_as g.row.D _ _ _ _ _ c.tell_shape.result
    (λ s t e. polygon_to g.row.D _ _ s e 0 t c.in_ok-shape.shape.edges c.args.rings.now (ap (λ (a : CountedPolygon). a.edges) c.in_ok-shape.ensures))
    (λ s t e. polygon_from g.row.D _ _ s e 0 t c.in_ok-shape.shape.edges c.args.rings.now (ap (λ (a : CountedPolygon). a.edges) c.in_ok-shape.ensures))
    c.tell_shape.ensures
