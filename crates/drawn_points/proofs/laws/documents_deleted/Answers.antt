use Rattle.drawn_points.specs.Generated.{documents}
use Rattle.drawn_points.proofs.Making.{kept_all, kept_more, kept_none}
use Rattle.drawn_points.proofs.laws.documents_deleted.Goals as goal

pub returns-clause-none : goal.returns-clause-none
returns-clause-none c seed n = kept_none (documents seed n)

pub returns-clause-more : goal.returns-clause-more
returns-clause-more c seed n bound tenth = kept_more bound (documents seed n) tenth

pub returns-clause-all : goal.returns-clause-all
returns-clause-all c = kept_all
