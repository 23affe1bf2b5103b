-- Where a head is its file's, the file is not cut within the pages of its leaves.
use Rattle.std.proofs.Common.{◌≡◌, ◌≤◌, ◌+◌, ◌*◌, ℕ, inl, inr, length, ap, ◌∙◌, arith}
use Rattle.outer_io.specs.Files.{Files, bytes_of}
use Rattle.outer_io.specs.declared.file_name.FileName.TheVariants.{Segment}
use Rattle.point_codec.specs.Points.{Region}
use Rattle.inner_pack.specs.Places.{Spot, front, end_of}
use Rattle.inner_pack.specs.Trees.{IndexTree, Leaf, Split, leaf_count, lengths_of}
use Rattle.inner_pack.specs.Bodies.{HasTree, pages_of, right_begin}
use Rattle.inner_pack.proofs.PlaceLemmas.{AreLengths, end_of_from}
use Rattle.inner_pack.proofs.HeadLemmas.{left_lengths, right_lengths}
use Rattle.inner_pack.proofs.Nested.{left_ends, right_ends}
use Rattle.inner_pack.proofs.OneTree.{one_index}
use Rattle.page_cache.specs.Evidence.{IsCut}
use Rattle.page_cache.proofs.Damages.{not_cut as whole_not_cut}
use Rattle.segment_file.specs.Heads.{Head, index_pages}
use Rattle.segment_file.specs.Segments.{IsHeadOf, IsLeafOf}
use Rattle.segment_file.specs.Damages.{IsLeafPage}

-- no leaf of a subtree begins on a page behind that on which the last one ends
leaf_before_end : (first : ℕ) (s : Spot) (t : IndexTree) (number : ℕ) (at : Spot) (len : ℕ) (own : Region) → AreLengths (lengths_of t)
    → IsLeafOf first s t number at len own → at.page ≤ (end_of s (lengths_of t)).page
leaf_before_end first s (Leaf n own) number at len cell lengths h =
    let same : at.page ≡ s.page = ap (λ (e : Spot). e.page) h.1 in
    omega (arith, same, end_of_from s (lengths_of (Leaf n own)))
leaf_before_end first s (Split d x l r) number at len cell lengths (inl h) =
    omega (arith, leaf_before_end first s l number at len cell (left_lengths l r lengths) h, left_ends s d x l r)
leaf_before_end first s (Split d x l r) number at len cell lengths (inr h) =
    let long = right_lengths l r lengths in
    let ends : (end_of (right_begin s l r) (lengths_of r)).page ≡ (end_of s (lengths_of (Split d x l r))).page =
    ap (λ (e : Spot). e.page) (right_ends s d x l r long) in
    omega (arith, ends, leaf_before_end (first + leaf_count l) (right_begin s l r) r number at len cell long h)

pub not_cut : (D : ℕ) (files : Files) (head : Head) (root : Region) (t : IndexTree) (size needed : ℕ) → IsHeadOf D (bytes_of (files (Segment head.id))) head
    → HasTree D head.index root t
    → IsLeafPage head 0 front t needed → IsCut files (Segment head.id) size needed → ⊥
unfolding IsHeadOf
not_cut D files head root t size needed is has leaf cut =
    let same : is.tree ≡ t = (one_index D head.index.form head.index.leaves head.index.bytes is.root root is.tree t is.spells.has has).1 in
    let pages = 1 + index_pages head + pages_of t in
    let long : length (bytes_of (files (Segment head.id))) ≡ 4096 * pages = is.size ∙ ap (λ (u : IndexTree). 4096 * (1 + index_pages head + pages_of u)) same in
    let before : leaf.spot.page ≤ (end_of front (lengths_of t)).page =
    leaf_before_end 0 front t leaf.number leaf.spot leaf.len leaf.own has.tree.lengths leaf.is in
    let needs : needed ≡ 4096 * (1 + index_pages head + leaf.spot.page + 1) = leaf.needs in
    whole_not_cut files (Segment head.id) pages size needed long (omega arith) cut
