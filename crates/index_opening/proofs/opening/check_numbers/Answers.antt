use Rattle.index_opening.proofs.opening.check_numbers.Goals as goal

pub returns-in-None-clause-alone : goal.returns-in-None-clause-alone
returns-in-None-clause-alone c = rw c.in-None.is at c.in_ok-misplaced.ensures.none
