use Rattle.page_file.proofs.Pages.{payload_of-length}
use Rattle.page_file.proofs.laws.payload_length.Goals as goal

pub returns : goal.returns
returns c = payload_of-length
