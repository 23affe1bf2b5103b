use Rattle.std.proofs.Common.{sym, ◌∙◌}
use Rattle.page_cache.proofs.note.are_same.Goals as goal
use Rattle.leaf_codec.proofs.OrderLemmas.{same_numbers}

pub returns : goal.returns
returns c same = same_numbers c.args.a.now c.args.b.now (sym c.eq.ensures ∙ same)
