-- A script that was read is a source that never fails.
use Rattle.std.proofs.Common.{arith, refl}
use Rattle.outer_io.specs.Counts.{Rose}
use Rattle.script_run.proofs.Statuses.{nothing_done, run_ends}
use Rattle.script_run.specs.Languages.{meaning}
use Rattle.bkd_top.proofs.scripts.run_text.Goals as goal

none_rose : Rose 0 0 → ⊥
none_rose h = omega (arith, h)

pub returns-clause-lines : goal.returns-clause-lines
returns-clause-lines g c = λ d. none_rose (c.run_source.ensures.causes.source (nothing_done c.run_source.result d c.run_source.ensures.never))

pub returns-clause-ends : goal.returns-clause-ends
returns-clause-ends g c = λ told state h.
    run_ends (meaning c.args.work.now.language) _ _ _ _ c.run_source.result (c.run_source.ensures.ends refl told state h)
    (λ e. none_rose (c.run_source.ensures.causes.source e))

pub returns-clause-canon : goal.returns-clause-canon
returns-clause-canon g c = c.run_source.ensures.canon

pub returns-clause-costs : goal.returns-clause-costs
returns-clause-costs g c = λ told. c.run_source.ensures.costs refl told

pub returns-clause-damage : goal.returns-clause-damage
returns-clause-damage g c = c.run_source.ensures.damage

pub returns-clause-folder_fault : goal.returns-clause-folder_fault
returns-clause-folder_fault g c = c.run_source.ensures.causes.folder

pub returns-clause-sink_fault : goal.returns-clause-sink_fault
returns-clause-sink_fault g c = c.run_source.ensures.causes.sink

pub returns-clause-lasting : goal.returns-clause-lasting
returns-clause-lasting g c = c.run_source.ensures.lasting

pub returns-clause-opened : goal.returns-clause-opened
returns-clause-opened g c = c.run_source.ensures.opened
