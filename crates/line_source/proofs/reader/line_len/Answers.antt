use Rattle.std.proofs.Common.{rules, tests}
use Rattle.std.specs.Prelude.{◌==◌}
use Rattle.std.proofs.lemmas.Iterator.{YieldsList-from_slice}
use Rattle.std.proofs.lemmas.Iterator.Search.{position_from_yields_List}
use Rattle.script_lang.proofs.Pieces.{position_or_length}
use Rattle.line_source.proofs.reader.line_len.Goals as goal

pub returns-clause-value : goal.returns-clause-value
returns-clause-value c =
    let found = position_from_yields_List (λ b. b == 10) _ _ c.position.result c.position.ensures.ran (YieldsList-from_slice c.args.bytes.now (search rules))
    (λ x b q k. search (rules, tests)) in
    rw (c.unwrap_or.ensures, found) (position_or_length (λ b. b == 10) c.args.bytes.now)
