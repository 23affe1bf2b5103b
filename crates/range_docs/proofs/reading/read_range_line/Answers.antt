use Rattle.std.proofs.Common.{◌/◌, arith}
use Rattle.script_lang.specs.Seen.{IsWithinLimits, request_of}
use Rattle.range_docs.specs.Seen.{AddsRanges}
use Rattle.range_docs.proofs.Sound.{command_within, if_both}
use Rattle.range_docs.proofs.reading.read_range_line.Goals as goal

pub returns-clause-limits : goal.returns-clause-limits
returns-clause-limits g c =
    (if_both (λ command. IsWithinLimits (request_of command)) (λ command. AddsRanges (g.row.D / 2) (request_of command)) c.read_command.result
    (command_within request_of c.read_command.result _ _ _ (omega arith) c.read_command.ensures)).0

pub returns-clause-ranges : goal.returns-clause-ranges
returns-clause-ranges g c =
    (if_both (λ command. IsWithinLimits (request_of command)) (λ command. AddsRanges (g.row.D / 2) (request_of command)) c.read_command.result
    (command_within request_of c.read_command.result _ _ _ (omega arith) c.read_command.ensures)).1
