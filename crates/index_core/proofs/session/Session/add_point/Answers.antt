-- A document of one point is added to the set.
use Rattle.std.proofs.Common.{◌≡◌, List, length, Err, [], ◌∷◌, ◌++◌, refl, ap, ◌∙◌, lit<, arith}
use Rattle.std.proofs.lemmas.Result.{err_from_is_err_and}
use Rattle.page_cache.specs.declared.faults.PageFault.{PageFault}
use Rattle.point_codec.specs.Points.{ordered_points}
use Rattle.point_codec.specs.Seen.{coordinates_of}
use Rattle.point_codec.specs.declared.coordinates.Point.{Point}
use Rattle.segment_set.proofs.Sizes.{point_fits, set_fits}
use Rattle.index_core.proofs.Adding.{adds_as, adds_memory_as, adds_one, adds_seen, one_ordered, put_given, put_seen}
use Rattle.index_core.proofs.Guarding.{grows_added}
use Rattle.index_core.proofs.Lasting.{writes_last}
use Rattle.index_core.proofs.session.Session.add_point.Given as given
use Rattle.index_core.proofs.session.Session.add_point.Goals as goal
use Rattle.index_core.proofs.session.Session.add_point.Goals.{After-drop-of}

pub add-requires-after_bounds : goal.add-requires-after_bounds
add-requires-after_bounds g c κs = λ _. (set_fits g.row.D c.self.invariant.few, lit< tt)

pub leaf_size-leaf_size-requires : goal.leaf_size-leaf_size-requires
leaf_size-leaf_size-requires g c = set_fits g.row.D c.self.invariant.few

pub returns-in_err-list : goal.returns-in_err-list
returns-in_err-list g c =
    let p = err_from_is_err_and c.from_residual.result c.from_residual.ensures.1 in
    adds_memory_as _ _ _ _ _ (p.1 ∙ ap (λ (e : PageFault). Err e) p.2)

-- the points of the document are the one
made : (g : given.Over) (c : After-drop-of g) → c.of.result ≡ c.args.point.now.c ∷ []
made g c =
    c.of.ensures
    ∙ ap (λ (ps : List (Point g.row.D)). ordered_points (coordinates_of ps))
    (c.push_reserved.ensures.items ∙ ap (λ (ps : List (Point g.row.D)). ps ++ c.args.point.now ∷ []) c.in_ok-list.ensures.items)
    ∙ one_ordered c.args.point.now.c

pub returns : goal.returns
returns g c =
    adds_seen _ _ _ _ _ _ _ _ _ c.self.view_is
    (adds_as _ _ _ _ _ _ _ c.add_result.ensures
    (adds_one _ _ _ _ _ c.add-2.result (record {
      commit = refl;
      refused = refl;
      grows = grows_added _ _ _ _ c.add-2.result c.add-2.ensures.rest.leaf_size c.add-2.ensures.gives.points_given c.add-2.ensures.left.stays;
      keeps = c.add-2.ensures.rewrites.kept;
      follows = c.add-2.ensures.rewrites.follows;
      well = c.leaf_size-leaf_size.ensures.well;
      snapshots = c.add-2.ensures.rest.snapshots;
      second = c.add-2.ensures.rewrites.canon;
      lasts = writes_last _ _ _ _ _ _ c.leaf_size-leaf_size.ensures.well c.add-2.ensures.rewrites;
      seen = put_seen _ _ _ _ _ _ _ _ _ (made g c) c.add-2.ensures.seen;
      points_given = put_given _ _ _ _ _ _ (made g c) c.add-2.ensures.gives.points_given;
      cause = c.add-2.ensures.cause;
      whole = c.add-2.ensures.damaged.whole;
      counts = λ told faithful. c.add-2.ensures.rewrites.counts told c.leaf_size-leaf_size.ensures.well faithful;
      faithful = c.add-2.ensures.rewrites.faithful;
      evident = c.add-2.ensures.damaged.evident;
    })))

pub of-requires : goal.of-requires
of-requires g c =
    let one = ap length (c.push_reserved.ensures.items ∙ ap (λ (ps : List (Point g.row.D)). ps ++ c.args.point.now ∷ []) c.in_ok-list.ensures.items) in
    (point_fits g.row.D c.self.invariant.few, (lit< tt, (omega (arith, one), omega (arith, one))))
