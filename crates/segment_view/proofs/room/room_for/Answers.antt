use Rattle.std.proofs.Common.{arith}
use Rattle.segment_view.specs.LiveSegments.{live_segment}
use Rattle.segment_view.proofs.Stepwise.{counts_among_more}
use Rattle.segment_view.proofs.room.room_for.Goals as goal

pub loop-i-preserved : goal.loop-i-preserved
loop-i-preserved g c =
    let was = c.loop-i.invariant in
    let one = c.room_of-more.ensures.live in
    let p = live_segment c.part.result.0.now c.part.result.1.now in
    let step = counts_among_more c.args.ids.now c.args.segments.now c.loop-i.i p c.part.ensures in
    omega (arith, was, one, step, c.saturating_add-room.ensures)
