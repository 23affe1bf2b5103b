use Rattle.std.proofs.Common.{◌≤◌, ◌+◌, length, take}
use Rattle.std.specs.Prelude.{sum_by}
use Rattle.segment_view.specs.LiveSegments.{parts_among}
use Rattle.segment_view.proofs.room.room_for.Given as goal

abbrev pub invariant-loop-i : goal.invariant-loop-i
invariant-loop-i g l = l.room ≤ 500 + sum_by (λ p. length p.live.live) (parts_among l.ids (take l.i l.segments))
