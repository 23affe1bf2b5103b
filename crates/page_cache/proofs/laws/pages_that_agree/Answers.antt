use Rattle.page_cache.proofs.Agreement.{agreeing_page}
use Rattle.page_cache.proofs.laws.pages_that_agree.Goals as goal

pub returns : goal.returns
returns c = agreeing_page
