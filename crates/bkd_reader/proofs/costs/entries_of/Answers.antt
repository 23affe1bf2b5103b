use Rattle.std.proofs.Common.{◌∙◌, ap}
use Rattle.segment_file.specs.Heads.{count_of}
use Rattle.bkd_reader.proofs.costs.entries_of.Goals as goal

pub returns-clause-count : goal.returns-clause-count
returns-clause-count g c = λ first s path t is.
    c.from.ensures ∙ c.count_of.ensures ∙ ap (count_of c.args.head.now) (c.first_leaf.ensures.number first s path t is)
