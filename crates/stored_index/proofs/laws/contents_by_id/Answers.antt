use Rattle.stored_index.proofs.Parts.{contents}
use Rattle.stored_index.proofs.laws.contents_by_id.Goals as goal

pub returns : goal.returns
returns c = λ files commit parts says held. contents files commit parts says.spells.commit.segments.rising held
