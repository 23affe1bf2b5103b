-- The set's call adds all documents.
use Rattle.std.proofs.Common.{◌+◌, ◌≤◌, ◌^◌, length, refl, sym, subst}
use Rattle.point_codec.proofs.Sizes.{entry_fits}
use Rattle.segment_set.specs.AtOnce.{AreNumbered}
use Rattle.segment_set.proofs.Sizes.{set_fits}
use Rattle.index_core.specs.Sessions.{SessionData}
use Rattle.index_core.proofs.Adding.{adds_put, adds_seen, put_length}
use Rattle.index_core.proofs.Guarding.{grows_added}
use Rattle.index_core.proofs.Lasting.{writes_last}
use Rattle.index_core.proofs.session.Session.add_whole.Goals as goal

pub add_entries-requires-after_bounds : goal.add_entries-requires-after_bounds
add_entries-requires-after_bounds g c κs = λ _. (
  set_fits g.row.D c.self.invariant.few,
  (
    entry_fits g.row.D c.self.invariant.few,
    (
      c.requires.some,
      (
        subst (λ (s : SessionData). AreNumbered s.set.next c.args.entries.now) (sym c.self.view_is) c.requires.numbered,
        subst (λ (s : SessionData). s.set.points_given + length c.args.entries.now ≤ 2 ^ 24) (sym c.self.view_is) c.requires.fits,
      ),
    ),
  ),
)

pub leaf_size-leaf_size-requires : goal.leaf_size-leaf_size-requires
leaf_size-leaf_size-requires g c = set_fits g.row.D c.self.invariant.few

pub returns : goal.returns
returns g c =
    adds_seen _ _ _ _ _ _ _ _ _ c.self.view_is
    (adds_put _ _ _ _ _ _ (record {
      commit = refl;
      refused = refl;
      grows = grows_added _ _ _ _ c.add_entries.result c.add_entries.ensures.rest.leaf_size c.add_entries.ensures.gives c.add_entries.ensures.left.stays;
      keeps = c.add_entries.ensures.rewrites.kept;
      follows = c.add_entries.ensures.rewrites.follows;
      well = c.leaf_size-leaf_size.ensures.well;
      snapshots = c.add_entries.ensures.rest.snapshots;
      second = c.add_entries.ensures.rewrites.canon;
      lasts = writes_last _ _ _ _ _ _ c.leaf_size-leaf_size.ensures.well c.add_entries.ensures.rewrites;
      seen = c.add_entries.ensures.seen;
      points_given = put_length c.args.entries.now _ _ _ c.add_entries.result c.add_entries.ensures.gives;
      cause = c.add_entries.ensures.cause;
      whole = c.add_entries.ensures.damaged.whole;
      counts = λ told faithful. c.add_entries.ensures.rewrites.counts told c.leaf_size-leaf_size.ensures.well faithful;
      faithful = c.add_entries.ensures.rewrites.faithful;
      evident = c.add_entries.ensures.damaged.evident;
    }))
