use Rattle.page_cache.proofs.Agreement.{bodies_equal}
use Rattle.page_cache.proofs.laws.bodies_of_one_length_are_equal.Goals as goal

pub returns : goal.returns
returns c = bodies_equal
