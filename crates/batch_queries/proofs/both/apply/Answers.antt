-- What the session does is one record.
use Rattle.batch_queries.proofs.Applying.{applies_calm}
use Rattle.batch_queries.proofs.both.apply.Goals as goal

pub returns-clause-applies : goal.returns-clause-applies
returns-clause-applies g c = applies_calm g.row.D _ _ _ _ _ _ c.requires.calm c.apply.ensures.applies
