use Rattle.std.proofs.Common.{ap, ◌∙◌, lit<}
use Rattle.segment_set.specs.Sets.{SetData}
use Rattle.segment_set.proofs.set.SegmentSet.next.Goals as goal

pub next-requires : goal.next-requires
next-requires g c = lit< tt

pub returns : goal.returns
returns g c = c.next.ensures ∙ ap (λ (s : SetData). s.next) c.self.view_is
