use Rattle.std.proofs.Common.{rules, ◌==◌, not, length}
use Rattle.std.proofs.lemmas.Iterator.{YieldsList-from_slice}
use Rattle.std.proofs.lemmas.Iterator.Search.{all_from_yields_List}
use borrow.Author.Tests.{tests}
use Rattle.command_words.proofs.Names.{are_names-texts}
use Rattle.command_words.proofs.options.are_names.Goals as goal

pub returns : goal.returns
returns c =
    are_names-texts c.args.parts.now c.all.result
    (all_from_yields_List (λ part. not (length part.now == 0)) _ _ c.all.result c.all.ensures.ran
    (YieldsList-from_slice c.args.parts.now cc) (λ x b q k. search (rules, tests)))
