use Rattle.std.proofs.Common.{◌≤◌, length, take}
use Rattle.std.specs.List.{All}
use Rattle.segment_view.specs.LiveSegments.{parts_among}
use Rattle.segment_set.specs.Merged.{IsWhole}
use Rattle.segment_set.proofs.choosing.is_settled.Given as goal

abbrev pub invariant-loop-i : goal.invariant-loop-i
invariant-loop-i g l = All IsWhole (parts_among l.ids (take l.i l.segments)) × (length l.ids ≤ 1)
