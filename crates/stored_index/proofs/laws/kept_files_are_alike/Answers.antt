use Rattle.stored_index.proofs.KeptFiles.{kept_itself, kept_back, kept_after}
use Rattle.stored_index.proofs.laws.kept_files_are_alike.Goals as goal

pub returns-clause-itself : goal.returns-clause-itself
returns-clause-itself c = kept_itself

pub returns-clause-back : goal.returns-clause-back
returns-clause-back c = kept_back

pub returns-clause-after : goal.returns-clause-after
returns-clause-after c = kept_after
