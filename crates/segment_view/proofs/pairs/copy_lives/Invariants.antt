use Rattle.std.proofs.Common.{◌≡◌, take}
use Rattle.segment_view.proofs.pairs.copy_lives.Given as goal

abbrev pub invariant-loop-live : goal.invariant-loop-live
invariant-loop-live l = l.copies.items ≡ take l.live-index l.lives
