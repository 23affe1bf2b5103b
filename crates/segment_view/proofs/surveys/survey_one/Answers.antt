use Rattle.std.proofs.Common.{◌∙◌, arith}
use Rattle.inner_pack.specs.Trees.{IndexTree}
use Rattle.segment_file.specs.Heads.{Head, count_of}
use Rattle.bkd_reader.specs.Counts.{tested_entries, touched_leaves}
use Rattle.bkd_reader.proofs.Trees.{tree_count}
use Rattle.bkd_reader.proofs.Uncrossed.{asked_most}
use Rattle.segment_view.proofs.Counting.{counted_one, le_by_tree, same_by_tree, tested-le, touched-le, count-le}
use Rattle.segment_view.proofs.surveys.survey_one.Goals as goal

pub returns-clause-tested : goal.returns-clause-tested
returns-clause-tested g c =
    counted_one g.row.D (λ (h : Head) (t : IndexTree). tested_entries (g.S.Shape.crosses c.args.shape.now) (count_of h) 0 t) c.args.head.now
    c.survey.result.tested
    (λ root t has. (c.survey.ensures.counts root t has).0)

pub returns-clause-touched : goal.returns-clause-touched
returns-clause-touched g c =
    counted_one g.row.D (λ (h : Head) (t : IndexTree). touched_leaves (g.S.Shape.has c.args.shape.now) (g.S.Shape.crosses c.args.shape.now) t) c.args.head.now
    c.survey.result.touched (λ root t has. (c.survey.ensures.counts root t has).1)

pub returns-clause-leaves : goal.returns-clause-leaves
returns-clause-leaves g c =
    same_by_tree g.row.D c.args.head.now.index c.index.result.now c.index.ensures.value c.is_spelled.ensures c.survey.result.leaves c.args.head.now.index.leaves
    (λ root t has. (c.survey.ensures.counts root t has).2 ∙ tree_count g.row.D c.args.head.now.index root t has)

pub returns-clause-compares : goal.returns-clause-compares
returns-clause-compares g c =
    le_by_tree g.row.D c.args.head.now.index c.index.result.now c.index.ensures.value c.is_spelled.ensures _ _
    (λ root t has.
    let e = tree_count g.row.D c.args.head.now.index root t has in
    let m = c.survey.ensures.compares root t has in
    let most = asked_most (g.S.Shape.crosses c.args.shape.now) root t in
    omega (arith, e, m, most))

pub returns-clause-few_tested : goal.returns-clause-few_tested
returns-clause-few_tested g c =
    le_by_tree g.row.D c.args.head.now.index c.index.result.now c.index.ensures.value c.is_spelled.ensures _ _
    (λ root t has.
    let is = (c.survey.ensures.counts root t has).0 in
    let most =
    tested-le (g.S.Shape.crosses c.args.shape.now) (count_of c.args.head.now) 4000 (λ n. count-le g.row.D c.args.head.now n c.index.ensures.ranges) 0 t in
    let e = tree_count g.row.D c.args.head.now.index root t has in
    omega (arith, is, most, e, has.tree.few))

pub returns-clause-few_touched : goal.returns-clause-few_touched
returns-clause-few_touched g c =
    le_by_tree g.row.D c.args.head.now.index c.index.result.now c.index.ensures.value c.is_spelled.ensures _ _
    (λ root t has.
    let is = (c.survey.ensures.counts root t has).1 in
    let most = touched-le (g.S.Shape.has c.args.shape.now) (g.S.Shape.crosses c.args.shape.now) t in
    let e = tree_count g.row.D c.args.head.now.index root t has in
    omega (arith, is, most, e, has.tree.few))

pub returns-clause-few_leaves : goal.returns-clause-few_leaves
returns-clause-few_leaves g c =
    le_by_tree g.row.D c.args.head.now.index c.index.result.now c.index.ensures.value c.is_spelled.ensures _ _
    (λ root t has.
    let is = (c.survey.ensures.counts root t has).2 in
    let e = tree_count g.row.D c.args.head.now.index root t has in
    omega (arith, is, e, has.tree.few))
