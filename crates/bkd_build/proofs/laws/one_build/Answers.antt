use Rattle.bkd_build.proofs.Leaves.{one_built, built_in_any_order}
use Rattle.bkd_build.proofs.laws.one_build.Goals as goal

pub returns-clause-one : goal.returns-clause-one
returns-clause-one c D leaf_size xs ys p q moved h k = one_built D leaf_size xs ys p q moved h k

pub returns-clause-any_order : goal.returns-clause-any_order
returns-clause-any_order c D leaf_size xs ys p moved h = built_in_any_order D leaf_size xs ys p moved h
