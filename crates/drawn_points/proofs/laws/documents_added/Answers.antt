use Rattle.drawn_points.proofs.Making.{documents_more}
use Rattle.drawn_points.proofs.laws.documents_added.Goals as goal

pub returns-clause-more : goal.returns-clause-more
returns-clause-more c = documents_more
