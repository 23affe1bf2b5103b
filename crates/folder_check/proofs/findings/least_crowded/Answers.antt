use Rattle.folder_check.proofs.Crowded.{least_all, least_none, least_step}
use Rattle.folder_check.proofs.findings.least_crowded.Goals as goal

pub loop-finding-init : goal.loop-finding-init
loop-finding-init c = least_none

pub loop-finding-preserved : goal.loop-finding-preserved
loop-finding-preserved c =
    least_step c.args.findings.now c.loop-finding.finding-index _ c.loop-finding.least c.lesser-least.result c.loop-finding-test.true c.lesser-least.ensures
    c.loop-finding.invariant

pub returns-clause-none : goal.returns-clause-none
returns-clause-none c =
    (least_all c.args.findings.now c.loop-finding.finding-index c.loop-finding.least c.loop-finding-test.false c.loop-finding.invariant).none

pub returns-clause-some : goal.returns-clause-some
returns-clause-some c =
    (least_all c.args.findings.now c.loop-finding.finding-index c.loop-finding.least c.loop-finding-test.false c.loop-finding.invariant).some
