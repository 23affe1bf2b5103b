use Rattle.std.proofs.Common.{◌≡◌, [], take}
use Rattle.nearest_query.specs.Segments.{live_items}
use Rattle.nearest_query.proofs.dead.has_none_live.Given as goal

abbrev pub invariant-loop-i : goal.invariant-loop-i
invariant-loop-i g l = record { none : live_items l.live (take l.i l.view) ≡ [] }
