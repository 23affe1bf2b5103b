use Rattle.std.proofs.Common.{rules}
use Rattle.commit_list.proofs.Heads.{numbers-parts}
use Rattle.commit_list.proofs.head.take_numbers.Goals as goal

pub returns-clause-taken : goal.returns-clause-taken
returns-clause-taken c = rw numbers-parts (search rules)
