-- A node that isn't walked below: one whose cell isn't crossed, and a leaf whose own cell is. `seen` is the cell that the shape was asked for.
use Rattle.std.proofs.Common.{◌≡◌, ◌≤◌, ℕ, ◌+◌, Bool, true, false, List, [], append-nil, ℤ, refl, sym, subst, ◌∙◌}
use Rattle.point_codec.specs.Points.{Region}
use Rattle.live_bits.specs.LiveSet.{LiveSet}
use Rattle.cell_relate.specs.Relations.{AllAnswer, IsUncrossed, KeepsUncrossed}
use Rattle.cell_relate.proofs.RelationLemmas.{is_outside-crosses}
use Rattle.inner_pack.specs.Places.{Spot}
use Rattle.inner_pack.specs.Trees.{IndexTree, Leaf, HasCells, cell_of}
use Rattle.inner_pack.specs.Nodes.{IsAt}
use Rattle.inner_pack.specs.declared.node.NodeAt.{NodeAt}
use Rattle.page_cache.specs.declared.cache.PageCache.{PageCache}
use Rattle.page_cache.specs.Cache.{IsKept}
use Rattle.segment_file.specs.Heads.{Head, page_of}
use Rattle.segment_file.proofs.Subtrees.{only_leaf}
use Rattle.bkd_reader.specs.Counts.{tested_entries, touched_leaves}
use Rattle.bkd_reader.specs.Hits.{AreHits, Appends}
use Rattle.bkd_reader.specs.Unread.{AreKept, IsTouched}
use Rattle.bkd_reader.proofs.Cells.{crossed_tested, crossed_touched}
use Rattle.bkd_reader.proofs.Trees.{count_at, none_below}
use Rattle.bkd_reader.proofs.Uncrossed.{untested, untouched}

-- ---- the cell isn't crossed

module _ (D : ℕ) (has : List ℤ → Bool) (crosses : Region → Bool) (keeps : KeepsUncrossed crosses) (first : ℕ) (path : Region) (t : IndexTree)
    (cells : HasCells D path t) (seen : Region) (same : seen ≡ cell_of path t) where
  pub none_tested : (count : ℕ → ℕ) (answer : Bool) → IsUncrossed has crosses seen answer → 0 ≡ tested_entries crosses count first t
  none_tested count answer u =
      untested D has crosses keeps count first answer path t cells (subst (λ r. IsUncrossed has crosses r answer) same u)

  pub none_touched : IsUncrossed has crosses seen false → 0 ≡ touched_leaves has crosses t
  none_touched u = untouched D has crosses keeps path t cells (subst (λ r. IsUncrossed has crosses r false) same u)

  pub none_found : (bytes : List ℕ) (head : Head) (live : LiveSet) (s : Spot) (old : List ℕ) → IsUncrossed has crosses seen false
      → Appends old old (AreHits D bytes head has live first s t)
  none_found bytes head live s old u = record {
    out = [];
    grew = sym (append-nil old);
    holds = none_below D bytes head has live first s path t cells (subst (AllAnswer has false) same u.all);
  }

-- ---- a leaf whose own cell is crossed

module _ {D : ℕ} (node : NodeAt D) (has : List ℤ → Bool) (crosses : Region → Bool) (count : ℕ → ℕ) (first : ℕ) (s : Spot) (path : Region) (t : IndexTree)
    (at : IsAt node first s path t) (one : node.leaves ≡ 1) (seen : Region) (same : seen ≡ cell_of path t) (crossed : crosses seen ≡ true) where
  at_leaf : (P : IndexTree → Type 0) → ((len : ℕ) (own : Region) → crosses own ≡ true → P (Leaf len own)) → P t
  at_leaf P each =
      only_leaf (λ u. crosses (cell_of path u) ≡ true → P u) t (count_at node first s path t at ∙ one) each (subst (λ r. crosses r ≡ true) same crossed)

  pub leaf_tested : count first ≡ tested_entries crosses count first t
  leaf_tested = at_leaf (λ u. count first ≡ tested_entries crosses count first u)
      (λ len own e. crossed_tested has crosses count first len own own refl e)

  pub leaf_touched : 1 ≡ touched_leaves has crosses t
  leaf_touched = at_leaf (λ u. 1 ≡ touched_leaves has crosses u) (λ len own e. crossed_touched has crosses count first len own own refl e)

  pub leaf_kept : (cache : PageCache) (head : Head) → AreKept cache head (IsTouched has crosses) s t → IsKept cache head.id (page_of head s.page)
  leaf_kept cache head =
      at_leaf (λ u. AreKept cache head (IsTouched has crosses) s u → IsKept cache head.id (page_of head s.page))
      (λ len own e all. all (is_outside-crosses has crosses own e))

  -- where it is asked of a shape that crosses the same cells
  pub leaf_tests : (told : Region → Bool) (a b : ℕ) → told ≡ crosses → (told (cell_of path t) ≡ true → b ≤ a + tested_entries told count first t)
      → b ≤ a + tested_entries crosses count first t
  leaf_tests told a b e given =
      subst (λ f. f (cell_of path t) ≡ true → b ≤ a + tested_entries f count first t) e given (subst (λ r. crosses r ≡ true) same crossed)
