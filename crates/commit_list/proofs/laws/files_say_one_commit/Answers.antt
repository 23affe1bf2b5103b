use Rattle.commit_list.proofs.CommitPages.{one_file, file_there}
use Rattle.commit_list.proofs.laws.files_say_one_commit.Goals as goal

pub returns-clause-one : goal.returns-clause-one
returns-clause-one c = one_file

pub returns-clause-there : goal.returns-clause-there
returns-clause-there c = file_there
