use Rattle.segment_file.proofs.LiveLemmas.{one_live_set}
use Rattle.segment_file.proofs.laws.one_live_set.Goals as goal

pub returns : goal.returns
returns c = one_live_set
