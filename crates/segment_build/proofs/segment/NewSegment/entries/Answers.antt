use Rattle.segment_build.proofs.Writable.{segment_of, some_counted}
use Rattle.segment_build.proofs.segment.NewSegment.entries.Goals as goal

pub returns-clause-some : goal.returns-clause-some
returns-clause-some g c =
    let i = c.self.inside in
    some_counted g.row.D (segment_of i.built i.leaf_size i.entries i.live) c.self.invariant
