use Rattle.segment_view.proofs.Living.{live-append, placed_totals, parted_totals, live_listed}
use Rattle.segment_view.proofs.laws.entries_join.Goals as goal

pub returns : goal.returns
returns c = record { joined = live-append; placed = placed_totals; parted = parted_totals; listed = live_listed }
