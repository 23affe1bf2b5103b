-- Walks that find each page that they need in the cache.
use Rattle.std.proofs.Common.{◌≡◌, ℕ, Bool, true, List, ℤ, sym, subst}
use Rattle.point_codec.specs.Points.{Region}
use Rattle.cell_relate.specs.Relations.{AllAnswer}
use Rattle.cell_relate.proofs.RelationLemmas.{AllAnswer-within, is_outside-all}
use Rattle.inner_pack.specs.Places.{Spot}
use Rattle.inner_pack.specs.Trees.{IndexTree, Leaf, Split, HasCells, cell_of}
use Rattle.inner_pack.specs.Bodies.{right_begin}
use Rattle.inner_pack.specs.Nodes.{AreChildren}
use Rattle.inner_pack.specs.declared.node.NodeAt.{NodeAt}
use Rattle.point_codec.specs.Cells.{left_of, right_of}
use Rattle.page_cache.specs.declared.cache.PageCache.{PageCache}
use Rattle.page_cache.specs.Cache.{IsKept, KeepsPages}
use Rattle.segment_file.specs.Heads.{Head, page_of}
use Rattle.bkd_reader.specs.Unread.{AreKept, IsAny, IsTouched}
use Rattle.bkd_reader.proofs.Cells.{all_left, all_right}

-- ---- what is kept below a node

pub kept_on : (old new : PageCache) (head : Head) (such : Region → Type 0) (s : Spot) (t : IndexTree) → KeepsPages old new → AreKept old head such s t
    → AreKept new head such s t
kept_on old new head such s (Leaf len own) stays kept = λ is. stays head.id (page_of head s.page) (kept is)
kept_on old new head such s (Split d x l r) stays kept =
    (kept_on old new head such s l stays kept.0, kept_on old new head such (right_begin s l r) r stays kept.1)

-- leaves that are kept below a node are kept below its children
pub children_kept : {D : ℕ} (cache : PageCache) (head : Head) (such : Region → Type 0) (left right : NodeAt D) (first : ℕ) (s : Spot) (path : Region)
    (t : IndexTree) (k : AreChildren left right first s path t) → AreKept cache head such s t
    → AreKept cache head such s k.l × AreKept cache head such (right_begin s k.l k.r) k.r
children_kept cache head such left right first s path t k kept = subst (λ (u : IndexTree). AreKept cache head such s u) k.is kept

-- where all leaves are kept, the first leaf's page is
pub first_kept : (cache : PageCache) (head : Head) (s : Spot) (t : IndexTree) → AreKept cache head IsAny s t → IsKept cache head.id (page_of head s.page)
first_kept cache head s (Leaf len own) kept = kept tt
first_kept cache head s (Split d x l r) kept = first_kept cache head s l kept.0

-- the same of a shape that answers the same
pub touched_as : (cache : PageCache) (head : Head) (has same_has : List ℤ → Bool) (crosses same_crosses : Region → Bool) (s : Spot) (t : IndexTree)
    → same_has ≡ has → same_crosses ≡ crosses → AreKept cache head (IsTouched has crosses) s t
    → AreKept cache head (IsTouched same_has same_crosses) s t
touched_as cache head has same_has crosses same_crosses s t same alike kept =
    subst (λ (f : List ℤ → Bool). AreKept cache head (IsTouched f same_crosses) s t) (sym same)
    (subst (λ (f : Region → Bool). AreKept cache head (IsTouched has f) s t) (sym alike) kept)

-- ---- below a node all of whose points are the shape's no leaf is outside

one_any : (D : ℕ) (has : List ℤ → Bool) (crosses : Region → Bool) (cache : PageCache) (head : Head) (path : Region) (s : Spot) (len : ℕ) (own : Region)
    → HasCells D path (Leaf len own) → AllAnswer has true own → AreKept cache head (IsTouched has crosses) s (Leaf len own)
    → AreKept cache head IsAny s (Leaf len own)
one_any D has crosses cache head path s len own cells all kept = λ any. kept (is_outside-all has crosses own cells.0.ordered all)

any_below : (D : ℕ) (has : List ℤ → Bool) (crosses : Region → Bool) (cache : PageCache) (head : Head) (path : Region) (s : Spot) (t : IndexTree)
    → HasCells D path t → AllAnswer has true path → AreKept cache head (IsTouched has crosses) s t → AreKept cache head IsAny s t
any_below D has crosses cache head path s (Leaf len own) cells all kept =
    one_any D has crosses cache head path s len own cells (AllAnswer-within has true own path cells.1 all) kept
any_below D has crosses cache head path s (Split d x l r) cells all kept = (
  any_below D has crosses cache head (left_of path d x) s l cells.1 (all_left D has true path d x l r cells all) kept.0,
  any_below D has crosses cache head (right_of path d x) (right_begin s l r) r cells.2 (all_right D has true path d x l r cells all) kept.1,
)

pub any_kept : (D : ℕ) (has : List ℤ → Bool) (crosses : Region → Bool) (cache : PageCache) (head : Head) (path : Region) (s : Spot) (t : IndexTree)
    → HasCells D path t → AllAnswer has true (cell_of path t) → AreKept cache head (IsTouched has crosses) s t → AreKept cache head IsAny s t
any_kept D has crosses cache head path s (Leaf len own) cells all kept = one_any D has crosses cache head path s len own cells all kept
any_kept D has crosses cache head path s (Split d x l r) cells all kept = any_below D has crosses cache head path s (Split d x l r) cells all kept
