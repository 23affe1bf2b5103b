use Rattle.std.proofs.Common.{◌≡◌, map, string_bytes}
use Rattle.clap.specs.Words.{app_of, found_of, rows_of}
use Rattle.clap.proofs.WalkLemmas.{both}
use Rattle.command_words.specs.declared.WordsFault.TheVariants as fault
use Rattle.command_words.proofs.Finds.{finds}
use Rattle.command_words.proofs.Refusals.{refused, rows_found}
use Rattle.command_words.proofs.reading.parse.Goals as goal

pub returns-in-Ok-clause-rows : goal.returns-in-Ok-clause-rows
returns-in-Ok-clause-rows c =
    let exact = both _ _ (both _ _ c.requires.plain).0 in
    rows_found (app_of c.args.command) (map string_bytes c.args.words.now) (rows_of (found_of c.in-Ok.matches))
    (c.in-Ok.ensures.kinds (both _ _ c.requires.plain).0) (c.in-Ok.ensures.matches exact.0).0

pub returns-in-Ok-clause-found : goal.returns-in-Ok-clause-found
returns-in-Ok-clause-found c = finds c.args.command c.in-Ok.matches c.in-Ok.ensures.parsed c.requires.plain

pub returns-in-Err-clause-usage : goal.returns-in-Err-clause-usage
returns-in-Err-clause-usage c e =
    let usage : c.fault_of.result ≡ fault.Usage = cc in
    refused (app_of c.args.command) (map string_bytes c.args.words.now) c.in-Err.error
    (c.in-Err.ensures.kinds (both _ _ c.requires.plain).0) (c.fault_of.ensures usage)
