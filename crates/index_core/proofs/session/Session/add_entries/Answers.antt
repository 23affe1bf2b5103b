-- Without an entry nothing is added.
use Rattle.segment_set.proofs.Sizes.{point_fits}
use Rattle.point_codec.proofs.Sizes.{entry_fits}
use Rattle.index_core.proofs.Sizes.{session_fits}
use Rattle.index_core.proofs.Adding.{adds_empty}
use Rattle.index_core.proofs.session.Session.add_entries.Goals as goal

pub add_all-requires-after_bounds : goal.add_all-requires-after_bounds
add_all-requires-after_bounds g c κs = λ _. (
  session_fits g.row.D c.entry-item.result.point.high,
  (point_fits g.row.D c.entry-item.result.point.high, (entry_fits g.row.D c.entry-item.result.point.high, c.requires.fits)),
)

pub returns-in-empty : goal.returns-in-empty
returns-in-empty g c = adds_empty g.row.D _ c.args.entries.now _ tt c.in-empty.len_below
