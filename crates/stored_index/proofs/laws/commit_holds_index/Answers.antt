use Rattle.stored_index.proofs.Whole.{held_for}
use Rattle.stored_index.proofs.laws.commit_holds_index.Goals as goal

pub returns : goal.returns
returns c = held_for
