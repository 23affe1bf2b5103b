use Rattle.std.proofs.Common.{◌∙◌}
use Rattle.bkd_reader.proofs.costs.leaves_below.Goals as goal

pub returns : goal.returns
returns g c = c.from.ensures ∙ c.leaf_count.ensures.field
