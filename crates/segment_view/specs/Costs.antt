-- What reading of segments costs: sums over the trees of their indexes.
use Rattle.std.specs.Prelude.{ℕ, ◌+◌, ◌*◌, ◌≡◌, ◌≤◌, Bool, List, [], ◌∷◌, Result, sum_by, All, ℤ}
use Rattle.point_codec.specs.Points.{Region}
use Rattle.inner_pack.specs.Places.{front}
use Rattle.inner_pack.specs.Trees.{IndexTree}
use Rattle.inner_pack.specs.Bodies.{HasTree}
use Rattle.page_cache.specs.declared.cache.PageCache.{PageCache}
use Rattle.page_cache.specs.declared.faults.PageFault.{PageFault}
use Rattle.page_cache.specs.Reading.{ReadsNothing}
use Rattle.segment_file.specs.Heads.{Head, count_of}
use Rattle.bkd_reader.specs.Counts.{tested_entries, touched_leaves}
use Rattle.bkd_reader.specs.declared.walk.Cost.{Cost}
use Rattle.bkd_reader.specs.Unread.{AreKept, IsTouched}
use Rattle.segment_view.specs.LiveSegments.{LiveSegment, heads_of}

-- how many leaves the segments have together
abbrev pub leaves_in : List Head → ℕ
leaves_in heads = sum_by (λ h. h.index.leaves) heads

-- so many together, where `count` is what a segment's tree comes to
abbrev pub AreCounted : (D : ℕ) → (count : Head → IndexTree → ℕ) → List Head → ℕ → Type 0
AreCounted D count [] n = n ≡ 0
AreCounted D count (h ∷ hs) n =
    (m : ℕ) × (rest : ℕ) × ((root : Region) (t : IndexTree) → HasTree D h.index root t → m ≡ count h t)
    × AreCounted D count hs rest × (n ≡ m + rest)

-- the entries, live or dead, of leaves whose own cell is crossed
abbrev pub AreTested : (D : ℕ) → (crosses : Region → Bool) → List Head → ℕ → Type 0
AreTested D crosses heads n = AreCounted D (λ h t. tested_entries crosses (count_of h) 0 t) heads n

-- the leaves whose own cell is not outside
abbrev pub AreTouched : (D : ℕ) → (has : List ℤ → Bool) → (crosses : Region → Bool) → List Head → ℕ → Type 0
AreTouched D has crosses heads n = AreCounted D (λ h t. touched_leaves has crosses t) heads n

-- what walks of these segments meet together
abbrev pub IsCostOf : (D : ℕ) → (has : List ℤ → Bool) → (crosses : Region → Bool) → List Head → Cost → Type 0
IsCostOf D has crosses heads cost = AreTested D crosses heads cost.tested × AreTouched D has crosses heads cost.touched

-- the page of each of these leaves is kept, of each of the segments
abbrev pub HasTouchedKept : (D : ℕ) → PageCache → (has : List ℤ → Bool) → (crosses : Region → Bool) → LiveSegment
    → Type 0
HasTouchedKept D cache has crosses p =
    (root : Region) × (t : IndexTree) × HasTree D p.head.index root t
    × AreKept cache p.head (IsTouched has crosses) front t

abbrev pub AreTouchedKept : (D : ℕ) → PageCache → (has : List ℤ → Bool) → (crosses : Region → Bool) → List LiveSegment
    → Type 0
AreTouchedKept D cache has crosses parts = All (HasTouchedKept D cache has crosses) parts

-- no more pages are read than there are such leaves, and none where the page of each is kept; then these stay kept
pub record ReadsTouched {T : Type 0} (D : ℕ) (has : List ℤ → Bool) (crosses : Region → Bool) (parts : List LiveSegment)
    (cache new_cache : PageCache) (before now : ℕ) (result : Result T PageFault) : Type 0 where
  pub most : (n : ℕ) → AreTouched D has crosses (heads_of parts) n → now ≤ before + n
  pub none : AreTouchedKept D cache has crosses parts → ReadsNothing before now cache new_cache result

-- How often a visit asks its shape: it tests the entries of leaves whose own cell is crossed, and those that wait in
-- the buffer, and compares at most two cells for each leaf.
pub record AsksAtMost (D : ℕ) (crosses : Region → Bool) (heads : List Head) (waiting : ℕ)
    (tested tested_now compared compared_now : ℕ) : Type 0 where
  pub tests : (n : ℕ) → AreTested D crosses heads n → tested_now ≤ tested + n + waiting
  pub compares : compared_now ≤ compared + 2 * leaves_in heads
