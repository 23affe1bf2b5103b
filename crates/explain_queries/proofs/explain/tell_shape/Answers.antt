-- What a shape touches is counted, and what it hits is found.
use Rattle.std.proofs.Common.{Err, length, refl, ap, ◌∙◌}
use Rattle.std.proofs.lemmas.Result.{err_from_is_err_and}
use Rattle.page_cache.specs.declared.faults.PageFault.{PageFault}
use Rattle.explain_queries.proofs.Explaining.{explains_done, explains_fault, explains_unsaid}
use Rattle.explain_queries.proofs.ShapesTold.{shape_told, shape_touches}
use Rattle.explain_queries.proofs.explain.tell_shape.Goals as goal

pub returns-in_err-found : goal.returns-in_err-found
returns-in_err-found g c =
    let p = err_from_is_err_and c.from_residual.result c.from_residual.ensures.1 in
    explains_fault g.row.D _ _ _ _ c.in_err-found.field-0.0 _ (p.1 ∙ ap (λ (e : PageFault). Err e) p.2) (record {
      seen = c.visit.ensures.seen;
      rest = c.visit.ensures.rest;
      files = c.visit.ensures.files;
      reads = λ told s e t tells. c.visit.ensures.reads t.touched (shape_touches g.row.D _ _ _ _ s t e tells);
      cause = c.in_err-found.ensures.cause;
      whole = c.in_err-found.ensures.damaged.whole;
      faithful = c.visit.ensures.faithful;
      evident = c.in_err-found.ensures.damaged.evident;
    })

pub returns-in_err-put_shape : goal.returns-in_err-put_shape
returns-in_err-put_shape g c =
    let p = err_from_is_err_and c.from_residual-in_err-put_shape.result c.from_residual-in_err-put_shape.ensures.1 in
    explains_unsaid g.row.D _ _ _ _ c.in_ok-found.found _ (p.1 ∙ ap (λ (e : PageFault). Err e) p.2) (record {
      seen = c.visit.ensures.seen;
      rest = c.visit.ensures.rest;
      files = c.visit.ensures.files;
      reads = λ told s e t tells. c.visit.ensures.reads t.touched (shape_touches g.row.D _ _ _ _ s t e tells);
      cause = c.in_ok-found.ensures.cause;
      whole = c.in_ok-found.ensures.damaged.whole;
      faithful = c.visit.ensures.faithful;
      evident = c.in_ok-found.ensures.damaged.evident;
    })

pub returns : goal.returns
returns g c =
    explains_done g.row.D _ _ _ _ c.in_ok-found.found (record {
      seen = c.visit.ensures.seen;
      rest = c.visit.ensures.rest;
      files = c.visit.ensures.files;
      reads = λ told s e t tells. c.visit.ensures.reads t.touched (shape_touches g.row.D _ _ _ _ s t e tells);
      cause = c.in_ok-found.ensures.cause;
      whole = c.in_ok-found.ensures.damaged.whole;
      faithful = c.visit.ensures.faithful;
      evident = c.in_ok-found.ensures.damaged.evident;
    })
    (λ told s e. shape_told g.row.D _ _ _ _ c.in_ok-found.found.cost.tested c.in_ok-found.found.cost.touched c.len.result _ _ s e
    c.in_ok-found.ensures.counts.0 c.in_ok-found.ensures.counts.1
    (c.len.ensures ∙ c.in_ok-found.found.docs.ok.0 ∙ ap length (c.in_ok-found.ensures.found told e.index e.seen e.index.docs refl))
    c.in_ok-put_shape.ensures)
