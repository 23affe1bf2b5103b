-- The document is the one point, and is added to the set.
use Rattle.std.proofs.Common.{refl, lit<}
use Rattle.segment_set.proofs.Sizes.{point_fits, set_fits}
use Rattle.index_core.proofs.Adding.{adds_as, adds_one, adds_seen, put_given, put_seen}
use Rattle.index_core.proofs.Guarding.{grows_added}
use Rattle.index_core.proofs.Lasting.{writes_last}
use Rattle.index_core.proofs.session.Session.add_by.Goals as goal

pub add-requires-after_bounds : goal.add-requires-after_bounds
add-requires-after_bounds g c κs = λ _. (set_fits g.row.D c.self.invariant.few, lit< tt)

pub leaf_size-leaf_size-requires : goal.leaf_size-leaf_size-requires
leaf_size-leaf_size-requires g c = set_fits g.row.D c.self.invariant.few

pub set_one-requires : goal.set_one-requires
set_one-requires g c = (lit< tt, point_fits g.row.D c.self.invariant.few)

pub returns : goal.returns
returns g c =
    adds_seen _ _ _ _ _ _ _ _ _ c.self.view_is
    (adds_as _ _ _ _ _ _ _ c.add_result.ensures
    (adds_one _ _ _ _ _ c.add.result (record {
      commit = refl;
      refused = refl;
      grows = grows_added _ _ _ _ c.add.result c.add.ensures.rest.leaf_size c.add.ensures.gives.points_given c.add.ensures.left.stays;
      keeps = c.add.ensures.rewrites.kept;
      follows = c.add.ensures.rewrites.follows;
      well = c.leaf_size-leaf_size.ensures.well;
      snapshots = c.add.ensures.rest.snapshots;
      second = c.add.ensures.rewrites.canon;
      lasts = writes_last _ _ _ _ _ _ c.leaf_size-leaf_size.ensures.well c.add.ensures.rewrites;
      seen = put_seen _ _ _ _ _ _ _ _ _ c.set_one.ensures c.add.ensures.seen;
      points_given = put_given _ _ _ _ _ _ c.set_one.ensures c.add.ensures.gives.points_given;
      cause = c.add.ensures.cause;
      whole = c.add.ensures.damaged.whole;
      counts = λ told faithful. c.add.ensures.rewrites.counts told c.leaf_size-leaf_size.ensures.well faithful;
      faithful = c.add.ensures.rewrites.faithful;
      evident = c.add.ensures.damaged.evident;
    })))
