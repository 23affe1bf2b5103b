use Rattle.stored_index.proofs.KeptFiles.{kept_but, kept_named, kept_none, kept_but_new, kept_but_commits}
use Rattle.stored_index.proofs.laws.kept_after_writes.Goals as goal

pub returns-clause-one : goal.returns-clause-one
returns-clause-one c = kept_but

pub returns-clause-none : goal.returns-clause-none
returns-clause-none c = kept_none

pub returns-clause-commit_new : goal.returns-clause-commit_new
returns-clause-commit_new c = kept_but_new

pub returns-clause-refused : goal.returns-clause-refused
returns-clause-refused c = kept_but_commits

pub returns-clause-named : goal.returns-clause-named
returns-clause-named c = kept_named
