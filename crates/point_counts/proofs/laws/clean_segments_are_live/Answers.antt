use Rattle.point_counts.proofs.Clean.{all_live, all_once}
use Rattle.point_counts.proofs.laws.clean_segments_are_live.Goals as goal

pub returns-clause-live : goal.returns-clause-live
returns-clause-live c = all_live

pub returns-clause-once : goal.returns-clause-once
returns-clause-once c = all_once
