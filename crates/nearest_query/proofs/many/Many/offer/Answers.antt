use Rattle.nearest_query.proofs.Kept.{skip_best}
use Rattle.nearest_query.proofs.many.Many.offer.Goals as goal

pub returns-then-is_left_out-clause-best : goal.returns-then-is_left_out-clause-best
returns-then-is_left_out-clause-best c = λ entries best.
    let out = c.is_left_out.ensures.yes c.if-is_left_out.true in
    skip_best entries c.args.self.now c.args.near best out.0 out.1
