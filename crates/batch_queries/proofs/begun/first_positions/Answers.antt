-- One position after the other.
use Rattle.std.proofs.Common.{◌≡◌, ◌+◌, ◌++◌, ℕ, suc, List, [], ◌∷◌, ap, arith, ◌∙◌}
use Rattle.batch_queries.specs.Merging.{below}
use Rattle.batch_queries.proofs.begun.first_positions.Goals as goal

pub loop-position-preserved : goal.loop-position-preserved
loop-position-preserved c =
    let next : suc c.loop-position.position ≡ c.loop-position.position + 1 = omega arith in
    c.in_ok-push.ensures.items ∙ ap (λ (ns : List ℕ). ns ++ c.loop-position.position ∷ []) c.loop-position.invariant ∙ ap below next
