use Rattle.file_names.proofs.Listed.{below_filtered}
use Rattle.file_names.proofs.names.FileNames.retain.Goals as goal

pub invariant_of-self : goal.invariant_of-self
invariant_of-self g c = below_filtered _ _ _ _ _ c.retain.ensures.filtered c.self.invariant
