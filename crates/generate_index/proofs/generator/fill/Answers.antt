-- What the calls make, one after the other.
use Rattle.std.proofs.Common.{◌*◌, Err, refl, ap, ◌∙◌, IsTrue}
use Rattle.std.proofs.lemmas.Result.{err_from_is_err_and}
use Rattle.page_cache.specs.declared.faults.PageFault.{PageFault}
use Rattle.drawn_points.specs.Draws.{draw}
use Rattle.generate_index.proofs.Making.{makes_by, makes_deletes, makes_ok, makes_stopped, makes_then}
use Rattle.generate_index.proofs.generator.fill.Goals as goal

-- all documents came, and then a tenth of them went
pub returns-in_err-add_drawn-clause-makes : goal.returns-in_err-add_drawn-clause-makes
returns-in_err-add_drawn-clause-makes g c =
    let p = err_from_is_err_and c.from_residual.result c.from_residual.ensures.1 in
    makes_stopped _ _ _ _ _ _ c.in_err-add_drawn.field-0.0 _ (p.1 ∙ ap (λ (e : PageFault). Err e) p.2)
    (makes_by (IsTrue g.F.Pages.told) _ c.args.seed c.args.docs _ _ _ c.new-draws.ensures c.in_err-add_drawn.ensures.makes)

pub returns-in_err-hits-clause-makes : goal.returns-in_err-hits-clause-makes
returns-in_err-hits-clause-makes g c =
    let p = err_from_is_err_and c.from_residual-in_err-hits.result c.from_residual-in_err-hits.ensures.1 in
    makes_stopped _ _ _ _ _ _ c.in_err-hits.field-0.0 _ (p.1 ∙ ap (λ (e : PageFault). Err e) p.2)
    (makes_then _ _ _ _ _ _ _ c.delete_tenths-live.result
    _ (makes_then _ _ _ _ _ _ _ tt _ (makes_by (IsTrue g.F.Pages.told) _ c.args.seed c.args.docs _ _ _ c.new-draws.ensures c.in_ok-add_drawn.ensures.makes)
    (makes_deletes _ c.args.seed c.args.docs _ _ _ _ c.delete_tenths-live.result c.delete_tenths-live.ensures.made c.delete_tenths-live.ensures.guards
    c.delete_tenths-live.ensures.faithful c.delete_tenths-live.ensures.traced c.delete_tenths-live.ensures.canon))
    (c.in_err-hits.ensures.makes c.args.seed c.args.docs))

pub returns-in_err-near-clause-makes : goal.returns-in_err-near-clause-makes
returns-in_err-near-clause-makes g c =
    let p = err_from_is_err_and c.from_residual-in_err-near.result c.from_residual-in_err-near.ensures.1 in
    makes_stopped _ _ _ _ _ _ c.in_err-near.field-0.0 _ (p.1 ∙ ap (λ (e : PageFault). Err e) p.2)
    (makes_then _ _ _ _ _ _ _ c.in_ok-hits.hits _
    (makes_then _ _ _ _ _ _ _ c.delete_tenths-live.result
    _ (makes_then _ _ _ _ _ _ _ tt _ (makes_by (IsTrue g.F.Pages.told) _ c.args.seed c.args.docs _ _ _ c.new-draws.ensures c.in_ok-add_drawn.ensures.makes)
    (makes_deletes _ c.args.seed c.args.docs _ _ _ _ c.delete_tenths-live.result c.delete_tenths-live.ensures.made c.delete_tenths-live.ensures.guards
    c.delete_tenths-live.ensures.faithful c.delete_tenths-live.ensures.traced c.delete_tenths-live.ensures.canon))
    (c.in_ok-hits.ensures.makes c.args.seed c.args.docs)) (c.in_err-near.ensures.makes c.args.seed c.args.docs))

pub returns-clause-makes : goal.returns-clause-makes
returns-clause-makes g c =
    makes_ok _ _ _ _ _ c.in_ok-near.near _
    (makes_then _ _ _ _ _ _ _ c.in_ok-hits.hits _
    (makes_then _ _ _ _ _ _ _ c.delete_tenths-live.result
    _ (makes_then _ _ _ _ _ _ _ tt _ (makes_by (IsTrue g.F.Pages.told) _ c.args.seed c.args.docs _ _ _ c.new-draws.ensures c.in_ok-add_drawn.ensures.makes)
    (makes_deletes _ c.args.seed c.args.docs _ _ _ _ c.delete_tenths-live.result c.delete_tenths-live.ensures.made c.delete_tenths-live.ensures.guards
    c.delete_tenths-live.ensures.faithful c.delete_tenths-live.ensures.traced c.delete_tenths-live.ensures.canon))
    (c.in_ok-hits.ensures.makes c.args.seed c.args.docs)) (c.in_ok-near.ensures.makes c.args.seed c.args.docs))

pub returns-clause-summary : goal.returns-clause-summary
returns-clause-summary g c told before =
    let added = (makes_by (IsTrue g.F.Pages.told) _ c.args.seed c.args.docs _ _ _ c.new-draws.ensures c.in_ok-add_drawn.ensures.makes).made told before in
    let deleted = c.delete_tenths-live.ensures.made (g.F.Pages.files c.add_drawn.new.folder) (g.F.Pages.faults c.add_drawn.new.folder) c.args.seed added in
    let asked = (c.in_ok-hits.ensures.makes c.args.seed c.args.docs).made told deleted in
    let drawn = c.in_ok-add_drawn.ensures.drawn ∙ ap (λ x. draw x (2 * c.args.docs)) c.new-draws.ensures in (
      refl,
      c.delete_tenths-live.ensures.live (g.F.Pages.files c.add_drawn.new.folder) (g.F.Pages.faults c.add_drawn.new.folder) c.args.seed added,
      c.in_ok-hits.ensures.hits told c.args.seed c.args.docs deleted drawn,
      c.in_ok-near.ensures.near told c.args.seed c.args.docs asked (c.in_ok-hits.ensures.drawn c.args.seed c.args.docs drawn),
    )
