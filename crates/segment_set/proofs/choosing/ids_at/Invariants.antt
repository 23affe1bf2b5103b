use Rattle.std.proofs.Common.{◌≡◌, map, take}
use Rattle.std.specs.Prelude.{slice_index}
use Rattle.segment_view.specs.LiveSegments.{ids_of}
use Rattle.segment_set.proofs.choosing.ids_at.Given as goal

abbrev pub invariant-loop-position : goal.invariant-loop-position
invariant-loop-position g l = l.ids.items ≡ map (slice_index (ids_of l.segments)) (take l.position-index l.positions)
