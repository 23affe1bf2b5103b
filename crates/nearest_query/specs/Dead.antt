-- Leaves that a cache knows to be dead: that of the live entries none is hidden by that.
use Rattle.std.specs.Prelude.{ℕ, ◌≡◌, ◌<◌, ◌⊎◌, Bool, false, IsTrue, List, [], length, map, slice_index_or}
use Rattle.std.specs.List.Sorted.{IsStrictlyIncreasing}
use Rattle.point_codec.specs.Points.{Item, Region}
use Rattle.live_bits.specs.LiveSet.{LiveSet}
use Rattle.leaf_codec.specs.Leaves.{SpellsLeaf}
use Rattle.inner_pack.specs.Places.{Spot}
use Rattle.inner_pack.specs.Trees.{IndexTree}
use Rattle.inner_pack.specs.Nodes.{IsAt, IsPlaceOf}
use Rattle.inner_pack.specs.declared.node.NodeAt.{NodeAt}
use Rattle.inner_pack.specs.declared.place.LeafPlace.{LeafPlace}
use Rattle.page_cache.specs.declared.cache.PageCache.{PageCache}
use Rattle.page_cache.specs.Cache.{KeepsDead, MarksGo}
use Rattle.segment_file.specs.Heads.{Head, page_of}
use Rattle.segment_file.specs.Segments.{part_of}
use Rattle.nearest_query.specs.Segments.{live_items, no_head}
use Rattle.nearest_query.specs.Search.{no_live}

-- none of the entries that this part of the page spells is live
abbrev pub IsLeafDead : (D : ℕ) → LiveSet → (offset len : ℕ) → (page : List ℕ) → Type 0
IsLeafDead D live offset len page = (items : List Item) → SpellsLeaf D (part_of offset len page) items
    → live_items live items ≡ []

-- of the segment's leaves that the cache knows to be dead none has an entry that is live in this set
abbrev pub HidesNone : (D : ℕ) → PageCache → (id : ℕ) → LiveSet → Type 0
HidesNone D cache id live = (number offset len : ℕ) (page : List ℕ) → KeepsDead cache id number offset len page
    → IsLeafDead D live offset len page

-- the same of several segments, each with its live set
abbrev pub HideNone : (D : ℕ) → PageCache → List Head → List LiveSet → Type 0
HideNone D cache heads lives = (i : ℕ) → i < length heads
    → HidesNone D cache (slice_index_or heads i no_head).id (slice_index_or lives i no_live)

-- leaves that the cache knows to be dead may be passed over: the segments ascend by their ids, and of the live entries
-- none is hidden
pub record MayPass (D : ℕ) (cache : PageCache) (heads : List Head) (lives : List LiveSet) : Type 0 where
  pub ascend : IsStrictlyIncreasing (map (λ h. h.id) heads)
  pub hides : HideNone D cache heads lives

-- how leaves of these segments are marked as dead: where the live sets are watched over no live entry is hidden by
-- that; where they aren't, marks only go
pub record MarksDead (D : ℕ) (watched : Bool) (heads : List Head) (lives : List LiveSet) (old new : PageCache) : Type 0
  where
    pub hides : IsTrue watched → HideNone D new heads lives
    pub go : watched ≡ false → MarksGo old new

-- the cache knows that the leaf is dead at which the node stands
pub record IsKnownDead {D : ℕ} (cache : PageCache) (head : Head) (node : NodeAt D) : Type 0 where
  pub place : LeafPlace
  pub stands : (first : ℕ) (s : Spot) (path : Region) (t : IndexTree) → IsAt node first s path t → IsPlaceOf place s t
  pub page : List ℕ
  pub known : KeepsDead cache head.id (page_of head place.page) place.offset place.length page

-- where it is watched over, leaves of this segment that have no live entry may be newly known as dead; no others are
abbrev pub MarksOf : (D : ℕ) → (watched : Bool) → (id : ℕ) → LiveSet → (old new : PageCache) → Type 0
MarksOf D watched id live old new = (i number offset len : ℕ) (page : List ℕ)
    → KeepsDead new i number offset len page → KeepsDead old i number offset len page
    ⊎ (IsTrue watched × (i ≡ id) × IsLeafDead D live offset len page)
