use Rattle.std.proofs.Common.{sym, subst}
use Rattle.segment_build.specs.NewSegments.{NewSegmentData, HasEntries}
use Rattle.segment_build.proofs.Writable.{segment_of, has_live, some_live}
use Rattle.segment_build.proofs.segment.NewSegment.clear.Goals as goal

pub invariant_of-self : goal.invariant_of-self
invariant_of-self g c =
    let i = c.self.inside in
    some_live g.row.D (segment_of i.built i.leaf_size i.entries i.live) c.clear.new.self c.self.invariant

pub returns-clause-entries : goal.returns-clause-entries
returns-clause-entries g c = λ items has.
    let i = c.self.inside in
    has_live g.row.D items (segment_of i.built i.leaf_size i.entries i.live) c.clear.new.self
    (subst (λ (n : NewSegmentData). HasEntries g.row.D items n) (sym c.self.view_is) has)
