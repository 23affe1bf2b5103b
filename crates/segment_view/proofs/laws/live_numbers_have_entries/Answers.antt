use Rattle.segment_view.proofs.Living.{live_numbers}
use Rattle.segment_view.proofs.laws.live_numbers_have_entries.Goals as goal

pub returns : goal.returns
returns c = live_numbers
