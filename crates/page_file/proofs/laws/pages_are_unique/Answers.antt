use Rattle.page_file.proofs.Pages.{page_unique}
use Rattle.page_file.proofs.laws.pages_are_unique.Goals as goal

pub returns : goal.returns
returns c = page_unique
