use Rattle.file_names.proofs.Listed.{below_none}
use Rattle.file_names.proofs.names.FileNames.of_commit.Goals as goal

pub invariant_of-result : goal.invariant_of-result
invariant_of-result c = rw c.new.ensures.items (below_none c.args.next_segment)
