use Rattle.std.proofs.Common.{rules}
use Rattle.range_docs.specs.Ranges.{query_of, bounds_of}
use Rattle.range_docs.specs.declared.ranges.Question.TheVariants.{Contains}
use Rattle.range_docs.proofs.Boxes.{found}
use Rattle.range_docs.proofs.ranges.around.Goals as goal

pub returns-clause-answers : goal.returns-clause-answers
returns-clause-answers g c =
    found Contains c.args.r (query_of c.args.r c.args.lo.now c.args.hi.now) (bounds_of (c.above_least.result, c.below_greatest.result))
    (search rules) (search rules) (search rules)
