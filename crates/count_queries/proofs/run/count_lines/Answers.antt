-- What the command does on its lines is what is told of it.
use Rattle.commands.proofs.Looked.{looked}
use Rattle.count_queries.specs.Counted.{IsScope, TellsCount, scope_heads}
use Rattle.count_queries.proofs.Scoped.{are_scopes}
use Rattle.count_queries.proofs.run.count_lines.Goals as goal

pub returns-clause-looked : goal.returns-clause-looked
returns-clause-looked g c = looked IsScope scope_heads are_scopes TellsCount _ c.run_command.result c.run_command.ensures.promises
