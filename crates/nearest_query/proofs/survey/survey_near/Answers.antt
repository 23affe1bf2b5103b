use Rattle.std.proofs.Common.{sym, subst}
use Rattle.inner_pack.specs.Places.{front}
use Rattle.inner_pack.specs.Bodies.{HasTree}
use Rattle.nearest_query.proofs.survey.survey_near.Goals as goal

pub returns : goal.returns
returns g c = λ root t h.
    c.near_below.ensures.value 0 front root t (c.walk.ensures root t (subst (λ i. HasTree g.row.D i root t) (sym c.index.ensures.value) h)) h.tree.cells
