use Rattle.std.proofs.Common.{◌≡◌, drop}
use Rattle.std.specs.List.{list_any}
use Rattle.live_bits.specs.LiveSet.{is_live}
use Rattle.segment_view.proofs.pairs.is_live_in.Given as goal

abbrev pub invariant-loop-live : goal.invariant-loop-live
invariant-loop-live l = list_any (λ s. is_live s l.doc) (drop l.live-index l.lives) ≡ list_any (λ s. is_live s l.doc) l.lives
