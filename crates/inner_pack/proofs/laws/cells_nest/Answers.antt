use Rattle.inner_pack.proofs.Nested.{left_within, right_within, node_within}
use Rattle.inner_pack.proofs.laws.cells_nest.Goals as goal

pub returns-clause-left : goal.returns-clause-left
returns-clause-left c D path d x cell h = left_within D path d x cell h

pub returns-clause-right : goal.returns-clause-right
returns-clause-right c D path d x cell h = right_within D path d x cell h

pub returns-clause-own : goal.returns-clause-own
returns-clause-own c D path t h = node_within D path t h
