-- Segments of whose live entries none is hidden by what a cache knows to be dead.
use Rattle.std.specs.Prelude.{ℕ, ◌≡◌, Bool, false, IsTrue, List, All}
use Rattle.page_cache.specs.declared.cache.PageCache.{PageCache}
use Rattle.page_cache.specs.Cache.{MarksGo}
use Rattle.nearest_query.specs.Dead.{HidesNone}
use Rattle.segment_view.specs.LiveSegments.{LiveSegment}

-- of the segment's leaves that the cache knows to be dead none has an entry that is live
abbrev pub HidesNoneOf : ℕ → PageCache → LiveSegment → Type 0
HidesNoneOf D cache p = HidesNone D cache p.head.id p.live

-- how leaves of these segments are marked as dead: where the live sets are watched over no live entry is hidden by
-- that; where they aren't, marks only go
pub record MarksDeadOf (D : ℕ) (watched : Bool) (parts : List LiveSegment) (old new : PageCache) : Type 0 where
  pub hides : IsTrue watched → All (HidesNoneOf D new) parts
  pub go : watched ≡ false → MarksGo old new
