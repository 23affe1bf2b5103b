use Rattle.std.proofs.Common.{◌-◌, arith}
use Rattle.std.proofs.lemmas.List.{length-set}
use Rattle.script_lang.proofs.Said.{ten_digits, line_before}
use Rattle.script_lang.proofs.replies.put_lines.Goals as goal

pub write_digits-at-requires : goal.write_digits-at-requires
write_digits-at-requires c =
    let room = c.loop-i.invariant.room in
    let digits = ten_digits c.from.result _ c.from.ensures (c.type_inv.docs (c.loop-i.i - 1)) in
    let within = c.loop-i.invariant.within in
    let long = length-set c.loop-i.block (c.loop-i.at - 1) 10 in
    (omega (arith, room, digits, c.loop-i-test.true), omega (arith, within, long))

pub loop-i-preserved : goal.loop-i-preserved
loop-i-preserved c =
    let room = c.loop-i.invariant.room in
    let within = c.loop-i.invariant.within in
    let digits = ten_digits c.from.result _ c.from.ensures (c.type_inv.docs (c.loop-i.i - 1)) in
    let long = length-set c.loop-i.block (c.loop-i.at - 1) 10 in
    record {
      room = omega (arith, room, digits, c.write_digits-at.ensures.start, c.loop-i-test.true);
      within = omega (arith, within, long, c.write_digits-at.ensures.start, c.write_digits-at.auto.buf);
      lines = line_before c.args.docs.now c.loop-i.block c.loop-i.i c.loop-i.at c.from.result _ c.loop-i-test.true c.loop-i.auto.i
          (omega (arith, room, c.loop-i-test.true)) within c.from.ensures c.write_digits-at.ensures.written c.loop-i.invariant.lines;
    }
