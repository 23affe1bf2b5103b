use Rattle.segment_build.proofs.Numbers.{all_live_all_kept}
use Rattle.segment_build.proofs.laws.all_live_all_entries.Goals as goal

pub returns : goal.returns
returns c = all_live_all_kept
