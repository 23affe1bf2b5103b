use Rattle.std.proofs.Common.{◌<◌, length, arith}
use Rattle.point_codec.specs.Points.{Item}
use Rattle.point_codec.specs.Seen.{items_of}
use Rattle.live_bits.specs.LiveSet.{is_live}
use Rattle.segment_file.proofs.Entries.{one_more, filter_more}
use Rattle.segment_file.proofs.sink.push_reserved.Goals as goal

pub loop-i-preserved : goal.loop-i-preserved
loop-i-preserved g c =
    let inside : c.loop-i.i < length c.args.view.now = omega arith in
    let m = one_more c.args.view.now c.loop-i.i inside in
    record {
      all = filter_more (λ (x : Item). is_live c.args.live.now x.doc) (items_of c.args.entries.now.items) (items_of c.loop-i.entries.items)
          (items_of c.push_if_live.new.entries.items) c.args.view.now c.loop-i.i m.0 m.2
          c.loop-i.invariant.all (c.push_if_live.ensures.one m.0 m.1);
      room = omega (arith, c.loop-i.invariant.room, c.push_if_live.ensures.room.0, c.push_if_live.ensures.room.1);
    }
