use Rattle.std.proofs.Common.{subst}
use Rattle.inner_pack.specs.Places.{front}
use Rattle.inner_pack.specs.Trees.{IndexTree}
use Rattle.segment_file.specs.Segments.{IsSegment, HoldsTree}
use Rattle.segment_file.proofs.Unique.{head_of_segment, tree_once}
use Rattle.segment_file.proofs.laws.one_segment.Goals as goal

pub returns-clause-head : goal.returns-clause-head
returns-clause-head c = head_of_segment

pub returns-clause-items : goal.returns-clause-items
unfolding IsSegment
returns-clause-items c = λ D bytes h xs ys p q.
    let same = c.one_tree.ensures D h.index.form h.index.leaves h.index.bytes p.root q.root p.tree q.tree p.has q.has in
    tree_once D bytes h 0 front q.tree xs ys (subst (λ (t : IndexTree). HoldsTree D bytes h 0 front t xs) same.1 p.holds) q.holds
