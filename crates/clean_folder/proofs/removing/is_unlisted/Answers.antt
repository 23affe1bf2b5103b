use Rattle.clean_folder.proofs.Removal.{is_neither, is_the_commit}
use Rattle.clean_folder.proofs.removing.is_unlisted.Goals as goal

pub returns-then-not-is : goal.returns-then-not-is
returns-then-not-is c = is_neither c.args.commit.now c.args.name.now c.is.result c.lists_file.result c.is.ensures c.if-not-is.true c.lists_file.ensures

pub returns-else-not-is : goal.returns-else-not-is
returns-else-not-is c = is_the_commit c.args.commit.now c.args.name.now c.is.result c.is.ensures c.if-not-is.false
