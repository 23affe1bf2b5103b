use Rattle.std.proofs.Common.{sym, subst, ap, ◌∙◌}
use Rattle.inner_pack.specs.Places.{front}
use Rattle.inner_pack.specs.Bodies.{HasTree}
use Rattle.bkd_reader.proofs.Trees.{root_of, tree_count}
use Rattle.bkd_reader.proofs.costs.survey.Goals as goal

pub returns-clause-counts : goal.returns-clause-counts
returns-clause-counts g c = λ root t h.
    let at = root_of c.walk.result c.args.head.now.index root t h
    (c.walk.ensures root t (subst (λ i. HasTree g.row.D i root t) (sym c.index.ensures.value) h)) in
    let leaves = c.from.ensures ∙ c.leaves.ensures ∙ ap (λ i. i.leaves) c.index-2.ensures.value ∙ sym (tree_count g.row.D c.args.head.now.index root t h) in
    (c.cost-tested.ensures.tested 0 front root t at, c.cost-tested.ensures.touched 0 front root t at, leaves)

pub returns-clause-compares : goal.returns-clause-compares
returns-clause-compares g c = λ root t h.
    c.cost-tested.ensures.compares 0 front root t (c.walk.ensures root t (subst (λ i. HasTree g.row.D i root t) (sym c.index.ensures.value) h))
