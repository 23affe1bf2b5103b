use Rattle.stored_index.proofs.BySegment.{docs_of_each, each_of_docs}
use Rattle.stored_index.proofs.laws.docs_by_segment.Goals as goal

pub returns : goal.returns
returns c = λ next parts alone. (docs_of_each next parts alone, λ docs. each_of_docs next parts docs.0 docs.1)
