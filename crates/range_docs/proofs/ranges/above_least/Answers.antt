use Rattle.std.proofs.Common.{◌≤◌, length, arith, ◌∙◌, ap, ◌++◌}
use Rattle.std.proofs.lemmas.List.{take-replicate}
use Rattle.range_docs.specs.Ranges.{least}
use Rattle.range_docs.proofs.ranges.above_least.Goals as goal

pub returns : goal.returns
returns g c =
    let half : length c.args.upper.now ≤ g.row.D = omega (arith, c.requires.half) in
    c.joined.ensures ∙ rw c.split_at.ensures.front (ap (λ l. l ++ c.args.upper.now) (take-replicate (length c.args.upper.now) g.row.D least half))
