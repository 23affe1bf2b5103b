use Rattle.segment_file.proofs.Unique.{one_head}
use Rattle.segment_file.proofs.laws.one_head.Goals as goal

pub returns : goal.returns
returns c = one_head
