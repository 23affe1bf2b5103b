use Rattle.script_lang.proofs.Limits.{command_within}
use Rattle.script_lang.proofs.reading.read_line.Goals as goal

pub returns-clause-limits : goal.returns-clause-limits
returns-clause-limits g c = command_within c.read_command.result _ _ _ _ c.read_command.ensures
