use Rattle.std.proofs.Common.{◌≡◌, map, take}
use Rattle.segment_view.proofs.pairs.sizes_of.Given as goal

abbrev pub invariant-loop-head : goal.invariant-loop-head
invariant-loop-head g l = l.sizes.items ≡ map (λ h. h.entries) (take l.head-index l.heads)
