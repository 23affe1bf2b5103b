use Rattle.std.proofs.Common.{◌≡◌, ap, length, length-take-le, rules, arith}
use Rattle.number_text.specs.Number.{coordinate}
use mir.Val.{to_z, of_z}
use mir.Syntax.{w32}
use Rattle.std.proofs.lemmas.Grind.{common_steps}
use Rattle.std.proofs.lemmas.Result.{err_from_is_err_and}
use Rattle.script_lang.proofs.Values.{writes_more, writes_whole, fails_later, fails_here, rest_both}
use Rattle.script_lang.proofs.numbers.point_at.Goals as goal

pub loop-i-preserved : goal.loop-i-preserved
loop-i-preserved g c =
    let round : to_z w32 (of_z w32 c.in_ok-x.x) ≡ c.in_ok-x.x = search rules in (
      grind (arith, common_steps),
      writes_more coordinate c.loop-i.c c.loop-i.i c.in_ok-x.x _ c.in-Some.word.now c.args.words.now c.loop-i.words c.next.new.self (omega arith) round
          c.loop-i.invariant.1 c.in-Some.ensures.word (grind (arith, common_steps)),
      rest_both c.loop-i.invariant.2 c.next.ensures.rest,
    )

-- the words are fewer than the coordinates
pub returns-in_default-clause-reads : goal.returns-in_default-clause-reads
returns-in_default-clause-reads g c = λ enough.
    absurd (omega (arith, c.loop-i.invariant.1.count, length-take-le c.loop-i.i c.loop-i.c, ap length c.in_default.ensures.word))

pub returns-in_default-clause-rest : goal.returns-in_default-clause-rest
returns-in_default-clause-rest g c = rest_both c.loop-i.invariant.2 c.next.ensures.rest

pub returns-in_err-x-clause-reads : goal.returns-in_err-x-clause-reads
returns-in_err-x-clause-reads g c =
    let p = err_from_is_err_and c.from_residual.result c.from_residual.ensures.1 in
    rw (p.1, p.2) (λ enough. fails_later _ c.loop-i.invariant.1
    (fails_here coordinate c.in-Some.word.now _ c.loop-i.words c.next.new.self c.in-Some.ensures.word (grind (arith, common_steps))))

pub returns-in_err-x-clause-rest : goal.returns-in_err-x-clause-rest
returns-in_err-x-clause-rest g c = rest_both c.loop-i.invariant.2 c.next.ensures.rest

pub returns-clause-reads : goal.returns-clause-reads
returns-clause-reads g c = writes_whole coordinate c.loop-i.c c.loop-i.i c.args.words.now c.loop-i.words (omega arith) c.loop-i.invariant.1

pub returns-clause-rest : goal.returns-clause-rest
returns-clause-rest g c = c.loop-i.invariant.2
