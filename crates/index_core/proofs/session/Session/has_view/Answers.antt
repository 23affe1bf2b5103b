-- The view is there where a snapshot has its name.
use Rattle.segment_set.proofs.Sizes.{set_fits}
use Rattle.index_core.proofs.session.Session.has_view.Goals as goal

pub has_snapshot-requires : goal.has_snapshot-requires
has_snapshot-requires g c = set_fits g.row.D c.self.invariant.few
