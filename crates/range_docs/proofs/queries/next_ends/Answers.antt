use Rattle.std.proofs.Common.{◌≡◌, ◌*◌, ◌/◌, rules, arith, length}
use Rattle.std.proofs.lemmas.Result.{err_from_is_err_and}
use Rattle.script_lang.specs.Parts.{words_left}
use Rattle.script_lang.proofs.Values.{box_fault}
use Rattle.range_docs.proofs.ReadEnds.{ends_whole}
use Rattle.range_docs.proofs.queries.next_ends.Goals as goal

pub returns-in_err-ends-clause-ends : goal.returns-in_err-ends-clause-ends
returns-in_err-ends-clause-ends g c = λ all.
    let p = err_from_is_err_and c.from_residual.result c.from_residual.ensures.1 in
    rw (p.1, p.2) (box_fault _ _ _ _ (omega (arith, all, c.requires.even)) (c.in_err-ends.ensures.reads (omega (arith, all))))

pub returns-in_err-ends-clause-rest : goal.returns-in_err-ends-clause-rest
returns-in_err-ends-clause-rest g c = c.in_err-ends.ensures.rest

pub returns-clause-ends : goal.returns-clause-ends
returns-clause-ends g c = λ all.
    let whole : length c.in_ok-ends.ends.c ≡ g.row.D = search rules in
    let two : length (words_left c.args.words.now) ≡ 2 * (g.row.D / 2) = omega (arith, all, c.requires.even) in
    let long : length c.in_ok-ends.ends.c ≡ 2 * (g.row.D / 2) = omega (arith, whole, c.requires.even) in
    ends_whole (g.row.D / 2) c.in_ok-ends.ends.c c.args.words.now _ two long c.in_ok-ends.ensures.reads

pub returns-clause-rest : goal.returns-clause-rest
returns-clause-rest g c = c.in_ok-ends.ensures.rest
