use Rattle.merge_policy.proofs.Few.{few_left}
use Rattle.merge_policy.proofs.few_are_left.Goals as goal

pub returns : goal.returns
returns c = few_left
