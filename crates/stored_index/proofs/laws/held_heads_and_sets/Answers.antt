use Rattle.stored_index.proofs.Parts.{held_heads, heads_are, held_sets, sets_are}
use Rattle.stored_index.proofs.laws.held_heads_and_sets.Goals as goal

pub returns-clause-heads : goal.returns-clause-heads
returns-clause-heads c = λ files commit parts h. (held_heads files commit parts h, λ heads have. heads_are files commit parts heads h have)

pub returns-clause-sets : goal.returns-clause-sets
returns-clause-sets c = λ files commit parts h. (held_sets files commit parts h, λ sets have. sets_are files commit parts sets h have)
