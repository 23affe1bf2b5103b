use Rattle.inner_pack.proofs.PlaceLemmas.{count_shaped, length-lengths_of}
use Rattle.inner_pack.proofs.laws.leaves_are_counted.Goals as goal

pub returns-clause-count : goal.returns-clause-count
returns-clause-count c n t h = count_shaped n t h

pub returns-clause-lengths : goal.returns-clause-lengths
returns-clause-lengths c t = length-lengths_of t
