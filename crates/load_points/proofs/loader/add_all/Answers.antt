-- All points are added where all fit, and refused where not.
use Rattle.std.proofs.Common.{Err, ap, ◌∙◌, arith}
use Rattle.std.proofs.lemmas.List.{length-map}
use Rattle.std.proofs.lemmas.Result.{err_from_is_err_and}
use Rattle.page_cache.specs.declared.faults.PageFault.{PageFault}
use Rattle.segment_set.specs.AtOnce.{points_in}
use Rattle.point_codec.specs.declared.entries.Entry.{Entry}
use Rattle.point_codec.proofs.Sizes.{entry_fits}
use Rattle.index_core.proofs.Sizes.{session_fits}
use Rattle.load_points.proofs.Loading.{loading_full, loads_no_memory}
use Rattle.load_points.proofs.loader.add_all.Goals as goal

pub points_given-requires : goal.points_given-requires
points_given-requires g c = session_fits g.row.D c.requires.few

pub add_fitting-requires-after_bounds : goal.add_fitting-requires-after_bounds
add_fitting-requires-after_bounds g c κs = λ _. (
  session_fits g.row.D c.requires.few,
  (
    entry_fits g.row.D c.requires.few,
    (
      c.requires.few,
      (
        c.requires.numbered (omega (arith, c.in-Some.ensures.1, c.points_given.ensures.value)),
        (c.in-Some.ensures.0, omega (arith, c.in-Some.ensures.1, c.points_given.ensures.value)),
      ),
    ),
  ),
)

pub returns-in-Some : goal.returns-in-Some
returns-in-Some g c = c.add_fitting.ensures

pub returns-in_err-put_full-in-None : goal.returns-in_err-put_full-in-None
returns-in_err-put_full-in-None g c =
    let p = err_from_is_err_and c.from_residual.result c.from_residual.ensures.1 in
    loads_no_memory _ _ _ _ _ _ _ _ _ (p.1 ∙ ap (λ (e : PageFault). Err e) p.2) (λ stored l. l.keeps)

pub returns-in_ok-put_full-in-None : goal.returns-in_ok-put_full-in-None
returns-in_ok-put_full-in-None g c =
    let long = length-map c.args.entries.now (λ (q : Entry g.row.D). q.point.c) in
    loading_full g.row.D _ _ _ _ _ (points_in c.args.entries.now) _ _ c.in_ok-put_full-in-None.ensures
    (omega (arith, long, c.in-None.ensures, c.points_given.ensures.value))
