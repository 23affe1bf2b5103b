use Rattle.std.proofs.Common.{◌∙◌, inl, inr, sym}
use Rattle.segment_set.proofs.Needed.{file_shown, unneeded_unlisted}
use Rattle.segment_set.proofs.set.SegmentSet.needs.Goals as goal

pub returns-then-shows-clause-yes : goal.returns-then-shows-clause-yes
returns-then-shows-clause-yes g c = λ e. inr (file_shown c.args.self.now c.args.name.now (sym c.shows.ensures ∙ c.if-shows.true))

pub returns-clause-yes : goal.returns-clause-yes
returns-clause-yes g c = λ e. inl (c.lists_file.ensures.0 e)

pub returns-clause-no : goal.returns-clause-no
returns-clause-no g c =
    unneeded_unlisted c.args.self.now c.args.c.now c.args.name.now c.lists_file.result c.lists_file.ensures (sym c.shows.ensures ∙ c.if-shows.false)

pub returns-then-shows-clause-no : goal.returns-then-shows-clause-no
returns-then-shows-clause-no g c = λ e. absurd cc
