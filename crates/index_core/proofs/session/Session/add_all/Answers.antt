-- One document's list is made, and each point added by way of it.
use Rattle.std.proofs.Common.{List, [], ◌∷◌, ◌++◌, length, Err, ap, lit<, ◌∙◌, arith}
use Rattle.std.proofs.lemmas.Result.{err_from_is_err_and}
use Rattle.page_cache.specs.declared.faults.PageFault.{PageFault}
use Rattle.point_codec.specs.declared.coordinates.Point.{Point}
use Rattle.segment_set.proofs.Sizes.{point_fits}
use Rattle.point_codec.proofs.Sizes.{entry_fits}
use Rattle.index_core.proofs.Sizes.{session_fits}
use Rattle.index_core.proofs.Adding.{adds_memory_as}
use Rattle.index_core.proofs.session.Session.add_all.Goals as goal

pub of-one-requires : goal.of-one-requires
of-one-requires g c =
    let one = ap length (c.push_reserved.ensures.items ∙ ap (λ (ps : List (Point g.row.D)). ps ++ c.args.first.now ∷ []) c.in_ok-list.ensures.items) in
    (point_fits g.row.D c.args.first.now.high, (lit< tt, (omega (arith, one), omega (arith, one))))

pub add_each-requires-after_bounds : goal.add_each-requires-after_bounds
add_each-requires-after_bounds g c κs = λ _. (
  session_fits g.row.D c.args.first.now.high,
  (entry_fits g.row.D c.args.first.now.high, (lit< tt, c.requires)),
)

pub returns-in_err-list : goal.returns-in_err-list
returns-in_err-list g c =
    let p = err_from_is_err_and c.from_residual.result c.from_residual.ensures.1 in
    adds_memory_as _ _ _ _ _ (p.1 ∙ ap (λ (e : PageFault). Err e) p.2)

pub returns : goal.returns
returns g c = c.add_each.ensures
