-- What is nearest is found, and the leaves as near are counted.
use Rattle.std.proofs.Common.{Err, refl, sym, ap, ◌∙◌}
use Rattle.std.proofs.lemmas.List.{length-map}
use Rattle.std.proofs.lemmas.Result.{err_from_is_err_and}
use Rattle.page_cache.specs.declared.faults.PageFault.{PageFault}
use Rattle.point_codec.specs.declared.entries.Near.{Near}
use Rattle.explain_queries.proofs.Explaining.{explains_done, explains_fault, explains_unsaid}
use Rattle.explain_queries.proofs.Nearby.{near_told, near_touches, nearby, nearby_is}
use Rattle.explain_queries.proofs.explain.tell_near.Goals as goal

pub returns-in_err-found : goal.returns-in_err-found
returns-in_err-found g c =
    let p = err_from_is_err_and c.from_residual.result c.from_residual.ensures.1 in
    explains_fault g.row.D _ _ _ _ c.in_err-found.field-0.0 _ (p.1 ∙ ap (λ (e : PageFault). Err e) p.2) (record {
      seen = c.nearest.ensures.seen;
      rest = c.nearest.ensures.rest;
      files = c.nearest.ensures.files;
      reads = λ told s e t tells.
          c.nearest.ensures.reads told e.seen.contents e.seen.stands (nearby g.row.D c.args.k _ _ c.args.at.now.c s e)
          (nearby_is g.row.D c.args.k _ _ c.args.at.now.c s e) t.touched (near_touches g.row.D c.args.k _ _ c.args.at.now.c s e t tells);
      cause = c.in_err-found.ensures.cause;
      whole = c.in_err-found.ensures.damaged.whole;
      faithful = c.nearest.ensures.faithful;
      evident = c.in_err-found.ensures.damaged.evident;
    })

pub returns-in_err-put_near : goal.returns-in_err-put_near
returns-in_err-put_near g c =
    let p = err_from_is_err_and c.from_residual-in_err-put_near.result c.from_residual-in_err-put_near.ensures.1 in
    explains_unsaid g.row.D _ _ _ _ c.in_ok-found.found _ (p.1 ∙ ap (λ (e : PageFault). Err e) p.2) (record {
      seen = c.nearest.ensures.seen;
      rest = c.nearest.ensures.rest;
      files = c.nearest.ensures.files;
      reads = λ told s e t tells.
          c.nearest.ensures.reads told e.seen.contents e.seen.stands (nearby g.row.D c.args.k _ _ c.args.at.now.c s e)
          (nearby_is g.row.D c.args.k _ _ c.args.at.now.c s e) t.touched (near_touches g.row.D c.args.k _ _ c.args.at.now.c s e t tells);
      cause = c.in_ok-found.ensures.cause;
      whole = c.in_ok-found.ensures.damaged.whole;
      faithful = c.nearest.ensures.faithful;
      evident = c.in_ok-found.ensures.damaged.evident;
    })

pub returns : goal.returns
returns g c =
    explains_done g.row.D _ _ _ _ c.in_ok-found.found (record {
      seen = c.nearest.ensures.seen;
      rest = c.nearest.ensures.rest;
      files = c.nearest.ensures.files;
      reads = λ told s e t tells.
          c.nearest.ensures.reads told e.seen.contents e.seen.stands (nearby g.row.D c.args.k _ _ c.args.at.now.c s e)
          (nearby_is g.row.D c.args.k _ _ c.args.at.now.c s e) t.touched (near_touches g.row.D c.args.k _ _ c.args.at.now.c s e t tells);
      cause = c.in_ok-found.ensures.cause;
      whole = c.in_ok-found.ensures.damaged.whole;
      faithful = c.nearest.ensures.faithful;
      evident = c.in_ok-found.ensures.damaged.evident;
    })
    (λ told s e. near_told g.row.D c.args.k _ _ c.args.at.now.c s e c.in_ok-found.found.docs.items c.in_ok-found.found.touched c.len.result _ _
    (c.in_ok-found.ensures.touches told e.index e.seen) (c.in_ok-found.ensures.found told e.index e.seen e.index.docs refl)
    (c.len.ensures ∙ c.in_ok-found.found.docs.ok.0 ∙ sym (length-map c.in_ok-found.found.docs.items (λ (n : Near). (n.dist2, n.doc)))) c.in_ok-put_near.ensures)
