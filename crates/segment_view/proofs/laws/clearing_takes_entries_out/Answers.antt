use Rattle.segment_view.proofs.Living.{live_cleared, heads_cleared, ids_cleared, any_cleared}
use Rattle.segment_view.proofs.laws.clearing_takes_entries_out.Goals as goal

pub returns : goal.returns
returns c = record { entries = live_cleared; heads = heads_cleared; ids = ids_cleared; live = any_cleared }
