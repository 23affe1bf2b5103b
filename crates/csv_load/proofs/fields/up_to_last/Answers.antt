use Rattle.std.proofs.Common.{arith, sym, ◌∙◌}
use Rattle.csv_load.proofs.Blanks.{up_to_last-at}
use Rattle.csv_load.proofs.fields.up_to_last.Goals as goal
use Rattle.csv_load.proofs.fields.up_to_last.Goals.{then-loop-end-test+else-is_blank, else-loop-end-test}

pub returns : goal.returns
returns c =
    elim c.loop-end-test.branch [
      | then-loop-end-test+else-is_blank w ↦
          up_to_last-at c.args.field.now c.loop-end.end c.loop-end.invariant.inside c.loop-end.invariant.blank
          (λ h. sym w.is_blank.ensures ∙ w.if-is_blank.false)
      | else-loop-end-test w ↦
          up_to_last-at c.args.field.now c.loop-end.end c.loop-end.invariant.inside c.loop-end.invariant.blank (λ h. absurd (omega arith))
    ]
