use Rattle.page_cache.proofs.Agreement.{agrees_other}
use Rattle.page_cache.proofs.laws.agreement_is_of_kept_files.Goals as goal

pub returns : goal.returns
returns c = agrees_other
