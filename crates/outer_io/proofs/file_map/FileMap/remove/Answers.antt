use Rattle.outer_io.proofs.FileLists.{files_in-others, files_in-others_other}
use Rattle.outer_io.proofs.file_map.FileMap.remove.Goals as goal

pub returns-clause-gone : goal.returns-clause-gone
returns-clause-gone c = rw c.remove_all.ensures.items (files_in-others c.args.n.now c.args.self.now.entries.items)

pub returns-clause-others : goal.returns-clause-others
returns-clause-others c other h = rw c.remove_all.ensures.items (files_in-others_other c.args.n.now other c.args.self.now.entries.items h)
