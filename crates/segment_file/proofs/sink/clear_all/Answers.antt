use Rattle.std.proofs.Common.{◌<◌, length, sym, arith}
use Rattle.segment_file.proofs.Cleared.{cleared_all, cleared_more, cleared_none}
use Rattle.segment_file.proofs.Entries.{one_more}
use Rattle.segment_file.proofs.sink.clear_all.Goals as goal

pub loop-i-init : goal.loop-i-init
loop-i-init g c = sym (cleared_none c.args.left.now)

pub loop-i-preserved : goal.loop-i-preserved
loop-i-preserved g c =
    let inside : c.loop-i.i < length c.args.view.now = omega arith in
    let m = one_more c.args.view.now c.loop-i.i inside in
    cleared_more c.args.view.now c.loop-i.i m.0 c.doc.result c.args.left.now c.loop-i.left c.clear.new.self m.2 (rw m.1 at c.doc.ensures)
    c.loop-i.invariant c.clear.ensures.after

pub returns : goal.returns
returns g c = cleared_all c.args.view.now c.loop-i.i c.args.left.now c.loop-i.left (omega arith) c.loop-i.invariant
