use Rattle.page_cache.proofs.PageRuns as runs
use Rattle.page_cache.proofs.laws.payloads_join.Goals as goal

pub returns-clause-parts : goal.returns-clause-parts
returns-clause-parts c = runs.payloads_join

pub returns-clause-one : goal.returns-clause-one
returns-clause-one c = runs.payloads_of_one
