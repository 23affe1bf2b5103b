use Rattle.segment_build.proofs.OneIndex.{one_canonical, canonical_in_any_order}
use Rattle.segment_build.proofs.laws.one_canonical_index.Goals as goal

pub returns-clause-one : goal.returns-clause-one
returns-clause-one c = one_canonical

pub returns-clause-any_order : goal.returns-clause-any_order
returns-clause-any_order c = canonical_in_any_order
