-- Without an index each line but one that asks nothing is refused.
use Rattle.std.proofs.Common.{IsTrue}
use Rattle.world.proofs.Bare.{bare_answers, bare_no_memory}
use Rattle.count_queries.specs.Counted.{TellsCount, bare}
use Rattle.count_queries.proofs.counting.NoIndexAnswers.answer.Goals as goal

pub returns-in-Ok : goal.returns-in-Ok
returns-in-Ok g c =
    bare_answers (IsTrue g.F.Pages.told) bare (λ s t. TellsCount s c.args.number c.args.line.now t) _ _ _ _ _ _ c.in-Ok.refused c.in-Ok.ensures

pub returns-in-Err : goal.returns-in-Err
returns-in-Err g c = bare_no_memory (IsTrue g.F.Pages.told) bare (λ s t. TellsCount s c.args.number c.args.line.now t) _ _ _ _ _ _
