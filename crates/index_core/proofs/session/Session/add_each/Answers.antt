-- One document after the other.
use Rattle.std.proofs.Common.{Err, ap, lit<, ◌∙◌}
use Rattle.std.proofs.lemmas.Result.{err_from_is_err_and}
use Rattle.page_cache.specs.declared.faults.PageFault.{PageFault}
use Rattle.segment_set.proofs.Sizes.{point_fits}
use Rattle.index_core.proofs.Sizes.{session_fits}
use Rattle.index_core.proofs.Adding.{adds_none, adds_stopped, adds_then}
use Rattle.index_core.proofs.AddingEach.{adds_all, adds_more, room_for_next}
use Rattle.index_core.proofs.session.Session.add_each.Goals as goal

pub add_by-requires-after_bounds : goal.add_by-requires-after_bounds
add_by-requires-after_bounds g c κs = λ _. (
  session_fits g.row.D c.entry-item.result.point.high,
  (
    point_fits g.row.D c.entry-item.result.point.high,
    (lit< tt, room_for_next g.row.D c.args.entries.now c.loop-entry.entry-index _ _ c.loop-entry-test.true c.requires c.loop-entry.invariant.points_given),
  ),
)

pub loop-entry-init : goal.loop-entry-init
loop-entry-init g c = adds_none g.row.D _ _ tt

pub loop-entry-preserved : goal.loop-entry-preserved
loop-entry-preserved g c =
    adds_more g.row.D _ c.args.entries.now c.loop-entry.entry-index c.entry-item.result _ _ _ tt _ c.loop-entry-test.true c.entry-item.is c.loop-entry.invariant
    c.in_ok-add_by.ensures

pub returns-in_err-add_by : goal.returns-in_err-add_by
returns-in_err-add_by g c =
    let p = err_from_is_err_and c.from_residual.result c.from_residual.ensures.1 in
    adds_stopped g.row.D _ _ _ _ _ c.in_err-add_by.field-0.0 _ (p.1 ∙ ap (λ (e : PageFault). Err e) p.2)
    (adds_then g.row.D _ _ _ _ _ _ tt _ c.loop-entry.invariant c.in_err-add_by.ensures)

pub returns : goal.returns
returns g c = adds_all g.row.D _ c.args.entries.now c.loop-entry.entry-index _ _ _ c.loop-entry-test.false c.loop-entry.invariant
