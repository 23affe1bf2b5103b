use Rattle.document_checks.proofs.found.tally.Goals as goal

pub returns-then-found-clause-none : goal.returns-then-found-clause-none
returns-then-found-clause-none g c = c.in_ok-found.ensures.alone c.if-found.true
