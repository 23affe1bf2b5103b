-- The lines mean what is said by the points of ranges.
use Rattle.script_run.proofs.RangeScripts.{ends_ranges}
use Rattle.bkd_top.proofs.scripts.run_ranges.Goals as goal

pub returns-clause-ranges : goal.returns-clause-ranges
returns-clause-ranges g c = λ source told state h ranges. ends_ranges _ state _ _ _ _ c.run_whole.result ranges (c.run_whole.ensures.ends source told state h)

pub returns-clause-lasting : goal.returns-clause-lasting
returns-clause-lasting g c = c.run_whole.ensures.lasting

pub returns-clause-opened : goal.returns-clause-opened
returns-clause-opened g c = c.run_whole.ensures.opened

pub returns-clause-ends : goal.returns-clause-ends
returns-clause-ends g c = c.run_whole.ensures.ends
