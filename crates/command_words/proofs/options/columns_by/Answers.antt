use Rattle.std.proofs.Common.{◌≡◌, ◌∙◌, ap, sym, codes, option_map, Some, None}
use Rattle.std.specs.Prelude.{option_and_then}
use Rattle.std.proofs.lemmas.Result.{IfOk-weaker}
use Rattle.clap.specs.Words.{first_of, found_of, rows_of}
use Rattle.clap.proofs.WalkLemmas.{first_value-rows}
use Rattle.command_words.specs.Commands.{names_of}
use Rattle.command_words.proofs.options.columns_by.Goals as goal

pub returns-in-Some-clause-names : goal.returns-in-Some-clause-names
returns-in-Some-clause-names c =
    let found = found_of c.args.matches.now in
    let first : first_of (codes "columns") (rows_of found) ≡ Some c.in-Some.text.now =
    sym (first_value-rows found (codes "columns")) ∙ (sym c.get_str.ensures ∙ ap (option_map (λ s. s.now)) c.in-Some.is) in
    IfOk-weaker c.names_of.result _ _ (λ names is. ap (option_and_then names_of) first ∙ is) c.names_of.ensures.names

pub returns-in-Some-clause-usage : goal.returns-in-Some-clause-usage
returns-in-Some-clause-usage c e =
    let found = found_of c.args.matches.now in
    let first : first_of (codes "columns") (rows_of found) ≡ Some c.in-Some.text.now =
    sym (first_value-rows found (codes "columns")) ∙ (sym c.get_str.ensures ∙ ap (option_map (λ s. s.now)) c.in-Some.is) in
    ap (option_and_then names_of) first ∙ c.names_of.ensures.usage e

pub returns-in-None-clause-usage : goal.returns-in-None-clause-usage
returns-in-None-clause-usage c e =
    let found = found_of c.args.matches.now in
    let first : first_of (codes "columns") (rows_of found) ≡ None =
    sym (first_value-rows found (codes "columns")) ∙ (sym c.get_str.ensures ∙ ap (option_map (λ s. s.now)) c.in-None.is) in
    ap (option_and_then names_of) first
