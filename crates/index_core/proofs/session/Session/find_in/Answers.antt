-- A polygon is a shape of the plane.
use Rattle.std.proofs.Common.{Err, refl, sym, ap, ◌∙◌}
use Rattle.std.proofs.lemmas.Result.{err_from_is_err_and}
use Rattle.page_cache.specs.declared.faults.PageFault.{PageFault}
use Rattle.polygon_query.specs.Shape.{CountedPolygon, crosses, has}
use Rattle.documents.specs.Documents.{hits}
use Rattle.script_lang.specs.Replies.{hits_text}
use Rattle.script_lang.specs.Seen.{view_name}
use Rattle.index_model.specs.State.{viewed_docs}
use Rattle.index_model.specs.Step.{query_outcome, in_plane_polygon, step_on}
use Rattle.index_core.proofs.Answering.{applies_as, applies_memory}
use Rattle.std.proofs.Common.{arith, subst}
use Rattle.page_cache.specs.declared.faults.PageFault.TheVariants as page
use Rattle.segment_set.specs.Sets.{viewed_parts}
use Rattle.index_core.specs.Costs.{ReadsTouched}
use Rattle.index_core.proofs.Showing.{damage_to, leaf_none}
use Rattle.index_core.proofs.Keeping.{still_same}
use Rattle.index_core.proofs.Keeping.{fault_keeps}
use Rattle.index_core.proofs.session.Session.find_in.Goals as goal

pub returns-in_err-shape-clause-applies : goal.returns-in_err-shape-clause-applies
returns-in_err-shape-clause-applies g c =
    let p = err_from_is_err_and c.from_residual.result c.from_residual.ensures.1 in
    applies_memory _ _ _ _ _ _ _ _ _ (p.1 ∙ ap (λ (e : PageFault). Err e) p.2) refl

pub returns-clause-applies : goal.returns-clause-applies
unfolding step_on
returns-clause-applies g c = applies_as _ _ _ _ _ _ _ _
    (λ i seen.
    ap (λ n. query_outcome i (viewed_docs (view_name c.args.view.now) i) (λ docs. hits_text (hits (in_plane_polygon n c.args.rings.now) docs))) seen.dims
    ∙ ap (λ (s : CountedPolygon). query_outcome i (viewed_docs (view_name c.args.view.now) i) (λ docs. hits_text (hits (has g.row.D s.edges) docs)))
    (sym c.in_ok-shape.ensures))
    c.find.ensures.applies

pub returns-in_err-shape-clause-reads : goal.returns-in_err-shape-clause-reads
returns-in_err-shape-clause-reads g c n touched = omega arith

pub returns-clause-reads : goal.returns-clause-reads
returns-clause-reads g c =
    subst (λ (s : CountedPolygon).
    ReadsTouched g.row.D (has g.row.D s.edges) (crosses g.row.D s.edges) (viewed_parts (view_name c.args.view.now) c.args.self.now.set)
    (g.F.Pages.reads c.args.folder.now) (g.F.Pages.reads c.find.new.folder))
    c.in_ok-shape.ensures c.find.ensures.reads

pub returns-in_err-shape-clause-damage : goal.returns-in_err-shape-clause-damage
returns-in_err-shape-clause-damage g c =
    let p = err_from_is_err_and c.from_residual.result c.from_residual.ensures.1 in
    leaf_none _ _ _ _ _ _ (damage_to _ _ page.Memory (p.1 ∙ ap (λ (e : PageFault). Err e) p.2) tt)

pub returns-clause-damage : goal.returns-clause-damage
returns-clause-damage g c = c.find.ensures.damage

pub returns-in_err-shape-clause-still : goal.returns-in_err-shape-clause-still
returns-in_err-shape-clause-still g c = still_same _ _ _

pub returns-clause-still : goal.returns-clause-still
returns-clause-still g c = c.find.ensures.still

pub returns-in_err-shape-clause-unread : goal.returns-in_err-shape-clause-unread
returns-in_err-shape-clause-unread g c =
    let p = err_from_is_err_and c.from_residual.result c.from_residual.ensures.1 in
    fault_keeps _ _ _ (p.1 ∙ ap (λ (e : PageFault). Err e) p.2)

pub returns-clause-unread : goal.returns-clause-unread
returns-clause-unread g c = c.find.ensures.unread
