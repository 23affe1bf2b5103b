-- What the command does on its lines is what is told of it.
use Rattle.commands.proofs.Looked.{looked}
use Rattle.explain_queries.specs.Explained.{IsScope, TellsLine, scope_heads}
use Rattle.explain_queries.proofs.Scoped.{are_scopes}
use Rattle.explain_queries.proofs.run.explain_lines.Goals as goal

pub returns-clause-looked : goal.returns-clause-looked
returns-clause-looked g c = looked IsScope scope_heads are_scopes TellsLine _ c.run_command.result c.run_command.ensures.promises
