use Rattle.std.proofs.Common.{rules, ◌≡◌, ◌+◌, true, false, refl, sym, subst, ◌∙◌, arith}
use Rattle.cell_relate.specs.Relations.{AllAnswer, IsUncrossed}
use Rattle.inner_pack.specs.Trees.{cell_of, leaf_count}
use Rattle.inner_pack.specs.Bodies.{right_begin}
use Rattle.segment_file.specs.Heads.{count_of}
use Rattle.bkd_reader.specs.Counts.{tested_entries, touched_leaves}
use Rattle.bkd_reader.proofs.Cells.{crossed_tested, crossed_touched, touched_all}
use Rattle.bkd_reader.proofs.Trees.{count_at, left_root, right_root}
use Rattle.bkd_reader.proofs.Sums.{tested_both, touched_both}
use Rattle.bkd_reader.proofs.Uncrossed.{asked_some, untested, untouched}
use Rattle.bkd_reader.proofs.Walks.{both_compares}
use Rattle.bkd_reader.proofs.costs.+cost.Goals as goal
use Rattle.segment_file.proofs.Subtrees.{only_leaf}

-- ---- the cell is not crossed

pub returns-in-Outside-clause-tested : goal.returns-in-Outside-clause-tested
returns-in-Outside-clause-tested g t c = λ first s path t' root.
    let has = g.S.Shape.has c.args.shape.now in
    let crosses = g.S.Shape.crosses c.args.shape.now in
    untested g.row.D has crosses (g.S.Shape.within_uncrossed c.args.shape.now) (count_of c.args.head.now) first false path t' root.cells
    (subst (λ r. IsUncrossed has crosses r false) (c.cell.ensures first s path t' root.is) c.in-Outside.ensures.answer)

pub returns-in-Outside-clause-touched : goal.returns-in-Outside-clause-touched
returns-in-Outside-clause-touched g t c = λ first s path t' root.
    let has = g.S.Shape.has c.args.shape.now in
    let crosses = g.S.Shape.crosses c.args.shape.now in
    untouched g.row.D has crosses (g.S.Shape.within_uncrossed c.args.shape.now) path t' root.cells
    (subst (λ r. IsUncrossed has crosses r false) (c.cell.ensures first s path t' root.is) c.in-Outside.ensures.answer)

pub returns-in-Outside-clause-compares : goal.returns-in-Outside-clause-compares
returns-in-Outside-clause-compares g t c = λ first s path t' is.
    let some = asked_some (g.S.Shape.crosses c.args.shape.now) path t' in
    let one = c.compare.ensures.compares in
    omega (arith, some, one)

pub returns-in-Inside-clause-tested : goal.returns-in-Inside-clause-tested
returns-in-Inside-clause-tested g t c = λ first s path t' root.
    let has = g.S.Shape.has c.args.shape.now in
    let crosses = g.S.Shape.crosses c.args.shape.now in
    untested g.row.D has crosses (g.S.Shape.within_uncrossed c.args.shape.now) (count_of c.args.head.now) first true path t' root.cells
    (subst (λ r. IsUncrossed has crosses r true) (c.cell.ensures first s path t' root.is) c.in-Inside.ensures.answer)

pub returns-in-Inside-clause-touched : goal.returns-in-Inside-clause-touched
returns-in-Inside-clause-touched g t c = λ first s path t' root.
    let has = g.S.Shape.has c.args.shape.now in
    let crosses = g.S.Shape.crosses c.args.shape.now in
    let all = subst (λ r. AllAnswer has true r) (c.cell.ensures first s path t' root.is) c.in-Inside.ensures.answer.all in
    c.leaves_below.ensures ∙ sym (count_at c.args.node.now first s path t' root.is) ∙ sym (touched_all g.row.D has crosses path t' root.cells all)

pub returns-in-Inside-clause-compares : goal.returns-in-Inside-clause-compares
returns-in-Inside-clause-compares g t c = λ first s path t' is.
    let some = asked_some (g.S.Shape.crosses c.args.shape.now) path t' in
    let one = c.compare.ensures.compares in
    omega (arith, some, one)

-- ---- both children are surveyed

pub returns-in-Some-clause-tested : goal.returns-in-Some-clause-tested
returns-in-Some-clause-tested g t c = λ first s path t' root.
    let k = c.in-Some.ensures.some first s path t' root.is in
    let left = c.cost-left_tested.ensures.tested first s _ k.l (left_root c.in-Some.left c.in-Some.right first s path t' k root.cells) in
    let right = c.cost-right_tested.ensures.tested (first + leaf_count k.l) (right_begin s k.l k.r) _ k.r
    (right_root c.in-Some.left c.in-Some.right first s path t' k root.cells) in
    let both = tested_both c.in-Some.left c.in-Some.right first s path t' k (g.S.Shape.crosses c.args.shape.now) _ _ (count_of c.args.head.now)
    c.compare.ensures.crosses (c.cost-left_tested.ensures.crosses ∙ c.compare.ensures.crosses) in
    omega (arith, left, right, both)

pub returns-in-Some-clause-touched : goal.returns-in-Some-clause-touched
returns-in-Some-clause-touched g t c = λ first s path t' root.
    let k = c.in-Some.ensures.some first s path t' root.is in
    let left = c.cost-left_tested.ensures.touched first s _ k.l (left_root c.in-Some.left c.in-Some.right first s path t' k root.cells) in
    let right = c.cost-right_tested.ensures.touched (first + leaf_count k.l) (right_begin s k.l k.r) _ k.r
    (right_root c.in-Some.left c.in-Some.right first s path t' k root.cells) in
    let both = touched_both c.in-Some.left c.in-Some.right first s path t' k (g.S.Shape.has c.args.shape.now) _ _ (g.S.Shape.crosses c.args.shape.now) _ _
    c.compare.ensures.has (c.cost-left_tested.ensures.has ∙ c.compare.ensures.has)
    c.compare.ensures.crosses (c.cost-left_tested.ensures.crosses ∙ c.compare.ensures.crosses) in
    omega (arith, left, right, both)

pub returns-in-Some-clause-compares : goal.returns-in-Some-clause-compares
returns-in-Some-clause-compares g t c = λ first s path t' is.
    let all = both_compares c.in-Some.left c.in-Some.right first s path t' (c.in-Some.ensures.some first s path t' is) (g.S.Shape.crosses c.args.shape.now)
    _ _ _ _ _ c.compare.ensures.crosses (c.cost-left_tested.ensures.crosses ∙ c.compare.ensures.crosses) _ (c.cell.ensures first s path t' is)
    c.in-Crosses.ensures.answer c.cost-left_tested.ensures.compares c.cost-right_tested.ensures.compares in
    let one = c.compare.ensures.compares in
    omega (arith, all, one)

-- ---- a leaf whose own cell is crossed

pub returns-in-None-clause-tested : goal.returns-in-None-clause-tested
returns-in-None-clause-tested g t c = λ first s path t' root.
    let one : c.args.node.now.leaves ≡ 1 = search rules in
    let crosses = g.S.Shape.crosses c.args.shape.now in
    let crossed = subst (λ r. crosses r ≡ true) (c.cell.ensures first s path t' root.is) c.in-Crosses.ensures.answer in
    c.entries_of.ensures.count first s path t' root.is
    ∙ only_leaf (λ u. crosses (cell_of path u) ≡ true → count_of c.args.head.now first ≡ tested_entries crosses (count_of c.args.head.now) first u) t'
    (count_at c.args.node.now first s path t' root.is ∙ one)
    (λ len own e. crossed_tested (g.S.Shape.has c.args.shape.now) crosses (count_of c.args.head.now) first len own own refl e)
    crossed

pub returns-in-None-clause-touched : goal.returns-in-None-clause-touched
returns-in-None-clause-touched g t c = λ first s path t' root.
    let one : c.args.node.now.leaves ≡ 1 = search rules in
    let has = g.S.Shape.has c.args.shape.now in
    let crosses = g.S.Shape.crosses c.args.shape.now in
    let crossed = subst (λ r. crosses r ≡ true) (c.cell.ensures first s path t' root.is) c.in-Crosses.ensures.answer in
    only_leaf (λ u. crosses (cell_of path u) ≡ true → 1 ≡ touched_leaves has crosses u) t'
    (count_at c.args.node.now first s path t' root.is ∙ one)
    (λ len own e. crossed_touched has crosses (count_of c.args.head.now) first len own own refl e)
    crossed

pub returns-in-None-clause-compares : goal.returns-in-None-clause-compares
returns-in-None-clause-compares g t c = λ first s path t' is.
    let some = asked_some (g.S.Shape.crosses c.args.shape.now) path t' in
    let one = c.compare.ensures.compares in
    omega (arith, some, one)

pub returns-in-None-clause-few_tested : goal.returns-in-None-clause-few_tested
returns-in-None-clause-few_tested g t c =
    let one : c.args.node.now.leaves ≡ 1 = search rules in
    let few = c.entries_of.ensures.few in
    omega (arith, one, few)

pub returns-in-None-clause-few_touched : goal.returns-in-None-clause-few_touched
returns-in-None-clause-few_touched g t c =
    let one : c.args.node.now.leaves ≡ 1 = search rules in
    omega (arith, one)
