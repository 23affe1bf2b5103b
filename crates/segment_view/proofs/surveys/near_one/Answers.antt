use Rattle.std.proofs.Common.{arith}
use Rattle.bkd_reader.proofs.Trees.{tree_count}
use Rattle.segment_view.proofs.Counting.{le_by_tree, near-le}
use Rattle.segment_view.proofs.surveys.near_one.Goals as goal

pub returns-clause-few : goal.returns-clause-few
returns-clause-few g c =
    le_by_tree g.row.D c.args.head.now.index c.index.result.now c.index.ensures.value c.is_spelled.ensures _ _
    (λ root t has.
    let is = c.survey_near.ensures root t has in
    let most = near-le c.args.at.now.c c.args.bound t in
    let e = tree_count g.row.D c.args.head.now.index root t has in
    omega (arith, is, most, e, has.tree.few))
