-- A file of a segment holds one list of entries.
use Rattle.std.proofs.Common.{◌≡◌, ℕ, List, subst}
use Rattle.point_codec.specs.Points.{Item}
use Rattle.inner_pack.specs.Places.{front}
use Rattle.inner_pack.specs.Trees.{IndexTree}
use Rattle.inner_pack.proofs.OneTree.{one_index}
use Rattle.segment_file.specs.Heads.{Head}
use Rattle.segment_file.specs.Segments.{IsSegment, HoldsTree}
use Rattle.segment_file.proofs.Unique.{tree_once}

pub entries_once : (D : ℕ) (bytes : List ℕ) (h : Head) (xs ys : List Item) → IsSegment D bytes h xs → IsSegment D bytes h ys → xs ≡ ys
unfolding IsSegment
entries_once D bytes h xs ys p q =
    let same = one_index D h.index.form h.index.leaves h.index.bytes p.root q.root p.tree q.tree p.has q.has in
    tree_once D bytes h 0 front q.tree xs ys (subst (λ (t : IndexTree). HoldsTree D bytes h 0 front t xs) same.1 p.holds) q.holds
