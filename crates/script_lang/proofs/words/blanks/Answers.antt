use Rattle.std.proofs.Common.{rules, tests}
use Rattle.std.specs.Prelude.{not}
use Rattle.std.proofs.lemmas.Iterator.Adapters.{YieldsList-from_bytes}
use Rattle.std.proofs.lemmas.Iterator.Search.{position_from_yields_List}
use Rattle.script_lang.specs.Lines.{is_blank}
use Rattle.script_lang.proofs.Pieces.{first_failing}
use Rattle.script_lang.proofs.words.blanks.Goals as goal

pub returns-clause-value : goal.returns-clause-value
returns-clause-value c =
    let found = position_from_yields_List (λ b. not (is_blank b)) _ _ c.position.result c.position.ensures.ran
    (YieldsList-from_bytes c.args.text.now (search rules)) (λ x b q k. search (rules, tests)) in
    rw (c.unwrap_or.ensures, found) (first_failing is_blank c.args.text.now)
