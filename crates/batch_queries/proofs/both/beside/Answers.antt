-- Both halves may be called, and what they hold has room in memory.
use Rattle.std.proofs.Common.{lit<, refl}
use Rattle.index_core.proofs.Sizes.{session_fits}
use Rattle.index_model.proofs.Sizes.{command_fits}
use Rattle.batch_queries.proofs.both.beside.Goals as goal
use Rattle.batch_run.proofs.Sizes.{query_fits}

pub join_mut-requires-room-G-FnMut-2 : goal.join_mut-requires-room-G-FnMut-2
join_mut-requires-room-G-FnMut-2 g c κs within = command_fits g.row.D c.requires.few

pub join_mut-requires-room-G-FnOnce-2 : goal.join_mut-requires-room-G-FnOnce-2
join_mut-requires-room-G-FnOnce-2 g c κs within = command_fits g.row.D c.requires.few

pub join_mut-requires-after_bounds : goal.join_mut-requires-after_bounds
join_mut-requires-after_bounds g c κs within = (
  (
    lit< tt,
    (
      query_fits g.row.D c.requires.few,
      (
        (record { shared = c.type_bounds.sync-R.shared }, record { shared = c.type_bounds.sync-G.shared }, c.requires.range),
        (record { shared = c.type_bounds.sync-R.shared }, record { shared = c.type_bounds.sync-G.shared }),
      ),
    ),
  ),
  (
    session_fits g.row.D c.requires.few,
    (
      command_fits g.row.D c.requires.few,
      (
        (record { shared = c.type_bounds.sync-R.shared }, record { shared = c.type_bounds.sync-G.shared }, c.requires.few, tt, refl),
        (record { shared = c.type_bounds.sync-R.shared }, record { shared = c.type_bounds.sync-G.shared }),
      ),
    ),
  ),
)
