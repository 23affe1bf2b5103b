use Rattle.range_docs.proofs.Sound.{names_ranges}
use Rattle.range_docs.proofs.laws.lines_name_ranges.Goals as goal

pub returns : goal.returns
returns c = names_ranges
