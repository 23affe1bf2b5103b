-- Each line is told after those before it.
use Rattle.std.proofs.Common.{◌≡◌, None, arith, length, refl}
use Rattle.std.proofs.lemmas.Bool.Decides.{nat_tests}
use Rattle.script_lang.specs.Lines.{lines_of}
use Rattle.run_status.proofs.Ending.{at_most_one, refused_more}
use Rattle.run_status.proofs.Telling.{stage_here, stage_on}
use Rattle.batch_queries.specs.Batched.{TellsBatch}
use Rattle.batch_queries.proofs.Lines.{no_lines}
use Rattle.batch_queries.proofs.Tells.{all_told}
use Rattle.batch_queries.proofs.telling.tell_bare.Goals as goal

pub lines-init : goal.lines-init
lines-init c = record { going = stage_here _ (TellsBatch None) _; room = omega (arith, c.requires); counted = omega arith }

pub lines-preserved : goal.lines-preserved
lines-preserved c =
    let told = c.in_ok-is_refused.ensures in
    record {
      going = stage_on _ (TellsBatch None) _ _ _ c.first_line.result.0.now told.told c.lines.invariant.going c.first_line.ensures.line refl told.tells
          (refused_more c.lines.refused c.in_ok-is_refused.is_refused told.told.refused c.from-refused.result
          told.refused c.from-refused.ensures) (λ t. told.text);
      room = omega (arith, c.lines.invariant.room, c.first_line.ensures.shorter);
      counted = omega (arith, c.lines.invariant.counted, at_most_one c.in_ok-is_refused.is_refused c.from-refused.result c.from-refused.ensures);
    }

pub returns : goal.returns
returns c =
    let none : length c.lines.rest.now ≡ 0 = grind (arith, nat_tests) in
    all_told (TellsBatch None) (lines_of c.args.lines.now) (lines_of c.lines.rest.now) c.lines.number c.lines.refused
    c.new-bytes.result.items c.lines.bytes.items
    c.lines.invariant.going (no_lines c.lines.rest.now none) c.new-bytes.ensures.items
