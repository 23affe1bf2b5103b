-- What a node with children counts: the sum over both, each told by a shape that has the same points and crosses the same cells.
use Rattle.std.proofs.Common.{◌≡◌, ℕ, ◌+◌, Bool, List, ℤ, Result, Ok, Err, sym, ap, ◌∙◌}
use Rattle.std.specs.Prelude.{IfOk}
use Rattle.point_codec.specs.Points.{Region}
use Rattle.inner_pack.specs.Places.{Spot}
use Rattle.inner_pack.specs.Trees.{IndexTree, leaf_count}
use Rattle.inner_pack.specs.Nodes.{AreChildren}
use Rattle.inner_pack.specs.declared.node.NodeAt.{NodeAt}
use Rattle.bkd_reader.specs.Counts.{tested_entries, touched_leaves}

module _ {D : ℕ} (left right : NodeAt D) (first : ℕ) (s : Spot) (path : Region) (t : IndexTree) (k : AreChildren left right first s path t) where
  pub tested_both : (crosses of_left of_right : Region → Bool) (count : ℕ → ℕ) → of_left ≡ crosses → of_right ≡ crosses
      → tested_entries crosses count first t ≡ tested_entries of_left count first k.l + tested_entries of_right count (first + leaf_count k.l) k.r
  tested_both crosses of_left of_right count e f =
      ap (tested_entries crosses count first) k.is
      ∙ (λ i. tested_entries (sym e i) count first k.l + tested_entries (sym f i) count (first + leaf_count k.l) k.r)

  pub touched_both : (has left_has right_has : List ℤ → Bool) (crosses of_left of_right : Region → Bool) → left_has ≡ has → right_has ≡ has
      → of_left ≡ crosses → of_right ≡ crosses
      → touched_leaves has crosses t ≡ touched_leaves left_has of_left k.l + touched_leaves right_has of_right k.r
  touched_both has left_has right_has crosses of_left of_right e f e' f' =
      ap (touched_leaves has crosses) k.is
      ∙ (λ i. touched_leaves (sym e i) (sym e' i) k.l + touched_leaves (sym f i) (sym f' i) k.r)

-- both facts of a value, if there is one
pub both_ok : {T E : Type 0} (r : Result T E) (P Q : T → Type 0) → IfOk r P → IfOk r Q → IfOk r (λ x. P x × Q x)
both_ok (Ok x) P Q p q = (p, q)
both_ok (Err e) P Q p q = tt
