use Rattle.std.proofs.Common.{arith, refl}
use Rattle.clap.specs.Words.{app_of, found_of}
use Rattle.command_words.specs.Commands.{batch, forks}
use Rattle.command_words.proofs.Finds.{found_option}
use Rattle.command_words.proofs.reading.read_batch.Goals as goal

pub read-requires : goal.read-requires
read-requires c =
    found_option (found_of c.in_ok-matches.matches) (app_of c.in_ok-command.command) batch c.in_ok-command.ensures c.in_ok-matches.ensures.found
    0 forks (omega arith) refl
