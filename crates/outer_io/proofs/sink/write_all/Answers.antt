use Rattle.std.proofs.Common.{rules, length-take, length-drop}
use Rattle.outer_io.proofs.Parts.{sent_more}
use Rattle.outer_io.proofs.sink.write_all.Goals as goal

pub loop-at-preserved : goal.loop-at-preserved
loop-at-preserved g c =
    record {
      told = λ t. sent_more _ _ _ c.loop-at.at c.in_ok-at.field-0 c.args.b.now (c.loop-at.invariant.told t) (c.in_ok-at.ensures.bytes t);
      within = search (rules, length-take, length-drop);
      faults = search rules;
    }
