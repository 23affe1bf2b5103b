-- Searches that find each leaf page in the cache.
use Rattle.std.proofs.Common.{ℕ, List, get_or, refl, inl}
use Rattle.point_codec.specs.Points.{Region}
use Rattle.inner_pack.specs.Places.{Spot}
use Rattle.inner_pack.specs.Trees.{IndexTree, Leaf, Split}
use Rattle.inner_pack.specs.declared.node.NodeAt.{NodeAt}
use Rattle.page_cache.specs.declared.cache.PageCache.{PageCache}
use Rattle.page_cache.specs.Cache.{IsKept, KeepsPages}
use Rattle.segment_file.specs.Heads.{Head, page_of}
use Rattle.segment_file.specs.Segments.{IsLeafOf}
use Rattle.nearest_query.specs.declared.frontier.Waiting.{Waiting}
use Rattle.nearest_query.specs.Segments.{AreLeavesKept, no_head}
use Rattle.nearest_query.specs.Search.{IsNodeBelow}

pub leaves_still : (old new : PageCache) (heads : List Head) (trees : ℕ → IndexTree) → KeepsPages old new → AreLeavesKept old heads trees
    → AreLeavesKept new heads trees
leaves_still old new heads trees stays kept = λ i inside number at len own is.
    stays (get_or heads i no_head).id (page_of (get_or heads i no_head) at.page) (kept i inside number at len own is)

-- the first leaf of a subtree stands at its place
first_leaf : (first : ℕ) (s : Spot) (t : IndexTree) → (len : ℕ) × (own : Region) × IsLeafOf first s t first s len own
first_leaf first s (Leaf len own) = (len, own, (refl, refl, refl, refl))
first_leaf first s (Split d x l r) = let below = first_leaf first s l in (below.0, below.1, inl below.2)

-- the page of what waits
pub leaf_kept : {D : ℕ} (cache : PageCache) (heads : List Head) (trees : ℕ → IndexTree) (nodes : List (NodeAt D)) (next : Waiting)
    → (n : IsNodeBelow heads trees nodes next) → AreLeavesKept cache heads trees
    → IsKept cache (get_or heads next.segment no_head).id (page_of (get_or heads next.segment no_head) n.spot.page)
leaf_kept cache heads trees nodes next n kept =
    let one = first_leaf next.first n.spot n.tree in
    kept next.segment n.inside next.first n.spot one.0 one.1 (n.part next.first n.spot one.0 one.1 one.2)
