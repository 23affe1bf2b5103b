use Rattle.segment_build.proofs.OneList.{has_once}
use Rattle.segment_build.proofs.laws.one_list_of_entries.Goals as goal

pub returns : goal.returns
returns c = has_once
