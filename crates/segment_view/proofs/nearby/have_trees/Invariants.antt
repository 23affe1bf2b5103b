use Rattle.std.proofs.Common.{take}
use Rattle.std.specs.Prelude.{All}
use Rattle.segment_file.specs.Heads.{IsHead}
use Rattle.segment_view.proofs.nearby.have_trees.Given as goal

abbrev pub invariant-loop-head : goal.invariant-loop-head
invariant-loop-head g l = All (λ h. ∥ IsHead g.row.D h ∥₁) (take l.head-index l.heads)
