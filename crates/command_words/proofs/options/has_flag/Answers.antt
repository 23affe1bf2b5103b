-- The text that is found for the flag says whether it is set.
use Rattle.std.proofs.Common.{◌≡◌, ◌∙◌, ap, sym, option_map, Some, None}
use Rattle.clap.specs.Words.{first_of, found_of, rows_of}
use Rattle.clap.proofs.WalkLemmas.{first_value-rows}
use Rattle.command_words.specs.Commands.{is_true}
use Rattle.command_words.proofs.options.has_flag.Goals as goal

pub returns-in-Some : goal.returns-in-Some
returns-in-Some c =
    let found = found_of c.args.matches.now in
    let first : first_of c.args.name.now (rows_of found) ≡ Some c.in-Some.text.now =
    sym (first_value-rows found c.args.name.now) ∙ (sym c.get_str.ensures ∙ ap (option_map (λ s. s.now)) c.in-Some.is) in
    c.eq.ensures ∙ sym (ap is_true first)

pub returns-in-None : goal.returns-in-None
returns-in-None c =
    let found = found_of c.args.matches.now in
    let first : first_of c.args.name.now (rows_of found) ≡ None =
    sym (first_value-rows found c.args.name.now) ∙ (sym c.get_str.ensures ∙ ap (option_map (λ s. s.now)) c.in-None.is) in
    sym (ap is_true first)
