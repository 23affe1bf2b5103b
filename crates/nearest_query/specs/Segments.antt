-- The entries of segments, and how far their leaves are from a point.
use Rattle.std.specs.Prelude.{ℕ, ◌<◌, slice_index_or, ◌+◌, ◌≡◌, Bool, true, if◌then◌else◌, nat_le, nat_lt, Option, Some}
use Rattle.std.specs.Prelude.{None, List, [], ◌∷◌, ◌++◌, filter, length, All, Contains, ℤ}
use Rattle.point_codec.specs.Points.{Item, Region, dist2}
use Rattle.point_codec.specs.Cells.{nearest_in}
use Rattle.point_codec.specs.declared.entries.Near.{Near}
use Rattle.live_bits.specs.LiveSet.{LiveSet, is_live}
use Rattle.outer_io.specs.Files.{Files, bytes_of}
use Rattle.outer_io.specs.declared.file_name.FileName.TheVariants.{Segment}
use Rattle.inner_pack.specs.Trees.{IndexTree, Leaf, Split}
use Rattle.inner_pack.specs.Bodies.{HasTree}
use Rattle.inner_pack.specs.Places.{Spot, front}
use Rattle.page_cache.specs.declared.cache.PageCache.{PageCache}
use Rattle.page_cache.specs.Cache.{IsKept}
use Rattle.page_cache.specs.declared.faults.Damage.{Damage}
use Rattle.segment_file.specs.Damages.{IsLeafDamage}
use Rattle.segment_file.specs.Heads.{Head, page_of}
use Rattle.segment_file.specs.Segments.{IsLeafOf, IsSegment}

-- the entries whose numbers are live
abbrev pub live_items : LiveSet → List Item → List Item
live_items live items = filter (λ x. is_live live x.doc) items

-- the live entries of the segments, one after another, where `contents` gives the entries of each segment by its id
abbrev pub live_in : (ℕ → List Item) → List Head → List LiveSet → List Item
live_in contents [] lives = []
live_in contents (h ∷ hs) [] = []
live_in contents (h ∷ hs) (live ∷ lives) = live_items live (contents h.id) ++ live_in contents hs lives

abbrev pub no_head : Head
no_head = record { id = 0; entries = 0; leaf_size = 0; index = record { form = 0; leaves = 0; bytes = [] } }

-- each head is that of its segment's file, which has these contents
abbrev pub AreSegments : ℕ → Files → (ℕ → List Item) → List Head → Type 0
AreSegments D files contents heads = All (λ h. IsSegment D (bytes_of (files (Segment h.id))) h (contents h.id)) heads

-- a segment of these has this id
abbrev pub HasId : List Head → ℕ → Type 0
HasId heads id = (h : Head) × Contains heads h × (h.id ≡ id)

-- the least squared distance from a point to a point of the cell
abbrev pub least_dist2 : List ℤ → Region → ℕ
least_dist2 at r = dist2 at (nearest_in r at)

-- the distance is at most the bound; each one is where there is none
abbrev pub is_within : Option ℕ → ℕ → Bool
is_within None d = true
is_within (Some b) d = nat_le d b

-- how many leaves have a cell whose least squared distance from the point is at most the bound (this project's count
-- of the leaves that a search may read)
unfoldable pub near_leaves : List ℤ → Option ℕ → IndexTree → ℕ
near_leaves at bound (Leaf len own) = if is_within bound (least_dist2 at own) then 1 else 0
near_leaves at bound (Split d x l r) = near_leaves at bound l + near_leaves at bound r

-- that many together, each segment judged by the tree of its index
abbrev pub AreNearLeaves : (D : ℕ) → List ℤ → Option ℕ → List Head → ℕ → Type 0
AreNearLeaves D at bound [] n = n ≡ 0
AreNearLeaves D at bound (h ∷ hs) n =
    (m : ℕ) × (rest : ℕ) × ((root : Region) (t : IndexTree) → HasTree D h.index root t → m ≡ near_leaves at bound t)
    × AreNearLeaves D at bound hs rest × (n ≡ m + rest)

-- a damage of a leaf of one of the segments, told by position, of whose index this is the tree
abbrev pub IsSegmentDamage : ℕ → List Head → (ℕ → IndexTree) → Damage → Type 0
IsSegmentDamage D heads trees d = (i : ℕ) × (i < length heads)
    × IsLeafDamage D (slice_index_or heads i no_head) 0 front (trees i) d

-- these are the trees of the segments' indexes
abbrev pub HaveTrees : ℕ → List Head → (ℕ → IndexTree) → Type 0
HaveTrees D heads trees = (i : ℕ) → i < length heads → (root : Region)
    × HasTree D (slice_index_or heads i no_head).index root (trees i)

-- the page of each leaf of the segments is kept, of whose indexes these are the trees
abbrev pub AreLeavesKept : PageCache → List Head → (ℕ → IndexTree) → Type 0
AreLeavesKept cache heads trees = (i : ℕ) → i < length heads → (number : ℕ) (at : Spot) (len : ℕ) (own : Region)
    → IsLeafOf 0 front (trees i) number at len own
    → IsKept cache (slice_index_or heads i no_head).id (page_of (slice_index_or heads i no_head) at.page)

-- how far a search of k numbers goes that finds these: as far as the last, and over all where there are fewer
abbrev pub last_of : List Near → Option ℕ
last_of [] = None
last_of (n ∷ []) = Some n.dist2
last_of (n ∷ (m ∷ ns)) = last_of (m ∷ ns)

abbrev pub bound_of : ℕ → List Near → Option ℕ
bound_of k found = if nat_lt (length found) k then None else last_of found
