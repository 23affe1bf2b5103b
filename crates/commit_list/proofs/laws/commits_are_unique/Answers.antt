use Rattle.commit_list.proofs.Bodies.{one_commit}
use Rattle.commit_list.proofs.laws.commits_are_unique.Goals as goal

pub returns-clause-commit : goal.returns-clause-commit
returns-clause-commit c = one_commit
