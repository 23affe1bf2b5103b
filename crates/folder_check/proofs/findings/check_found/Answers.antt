use Rattle.std.proofs.Common.{arith}
use Rattle.folder_check.specs.Found.{HasAll}
use Rattle.folder_check.proofs.Pairs.{zip_step}
use Rattle.folder_check.proofs.findings.check_found.Goals as goal

pub loop-i-preserved : goal.loop-i-preserved
loop-i-preserved c =
    zip_step HasAll c.args.listed.now c.args.findings.now c.loop-i.i _ _ c.loop-i-test.true (omega (arith, c.loop-i-test.true, c.requires)) c.if-s-found.false
    c.loop-i.invariant
