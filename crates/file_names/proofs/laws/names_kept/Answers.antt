use Rattle.file_names.proofs.Listed.{is_named-filter, gone, others_kept}
use Rattle.file_names.proofs.laws.names_kept.Goals as goal

pub returns-clause-kept : goal.returns-clause-kept
returns-clause-kept c = is_named-filter

pub returns-clause-gone : goal.returns-clause-gone
returns-clause-gone c = gone

pub returns-clause-others : goal.returns-clause-others
returns-clause-others c = others_kept
