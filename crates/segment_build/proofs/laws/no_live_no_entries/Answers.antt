use Rattle.segment_build.proofs.Numbers.{none_live_none_kept}
use Rattle.segment_build.proofs.laws.no_live_no_entries.Goals as goal

pub returns : goal.returns
returns c = none_live_none_kept
