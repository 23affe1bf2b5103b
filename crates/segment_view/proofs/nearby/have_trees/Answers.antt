use Rattle.std.proofs.Common.{◌≡◌, ◌+◌, ◌++◌, [], ◌∷◌, ap, sym, subst, take, ◌∙◌}
use Rattle.std.specs.List.{All}
use Rattle.std.proofs.lemmas.List.{take_more}
use Rattle.std.proofs.lemmas.List.Elements.{All-push}
use Rattle.segment_file.specs.Heads.{IsHead}
use Rattle.segment_view.proofs.Shown.{head_seen}
use Rattle.segment_view.proofs.nearby.have_trees.Goals as goal

pub loop-head-preserved : goal.loop-head-preserved
loop-head-preserved g c =
    let heads = c.args.heads.now in
    let i = c.loop-head.head-index in
    let head = c.head-item.result in
    let more : take (i + 1) heads ≡ take i heads ++ head ∷ [] =
    take_more heads i head c.loop-head-test.true ∙ ap (λ h. take i heads ++ h ∷ []) (sym c.head-item.is) in
    subst (All (λ h. ∥ IsHead g.row.D h ∥₁)) (sym more)
    (All-push (λ h. ∥ IsHead g.row.D h ∥₁) (take i heads) head c.loop-head.invariant
    (head_seen g.row.D head c.index.result.now c.index.ensures.ranges c.index.ensures.value c.is_spelled.ensures))
