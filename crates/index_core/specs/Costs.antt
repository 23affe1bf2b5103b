-- What requests read at most.
use Rattle.std.specs.Prelude.{◌≡◌, ◌≤◌, ◌+◌, ◌⊎◌, ℕ, Bool, List, length, ℤ}
use Rattle.outer_io.specs.Files.{Files}
use Rattle.point_codec.specs.Points.{Region, in_box}
use Rattle.point_codec.specs.declared.entries.Near.{Near}
use Rattle.cell_relate.specs.Boxes as box
use Rattle.ring_parity.specs.Rings.{all_edges}
use Rattle.polygon_query.specs.Shape as polygon
use Rattle.documents.specs.NearestEntries.{IsNearest, nears_of}
use Rattle.nearest_query.specs.Segments.{AreNearLeaves, bound_of}
use Rattle.script_lang.specs.Requests.{Request, Viewed}
use Rattle.script_lang.specs.Requests as asks
use Rattle.segment_view.specs.LiveSegments.{Contents, LiveSegment, heads_of}
use Rattle.segment_view.specs.Costs.{AreTouched}
use Rattle.segment_set.specs.Sets.{IsSettled, SetData, viewed_buffer, viewed_parts}
use Rattle.segment_set.specs.Seen.{StandsOver, entries_seen}
use Rattle.index_core.specs.Sessions.{IsUnchanged, SessionData}

-- a search for a shape: no more reads than the segments have leaves whose own cell is not outside, summed
abbrev pub ReadsTouched : (D : ℕ) → (has : List ℤ → Bool) → (crosses : Region → Bool) → List LiveSegment
    → (before now : ℕ)
    → Type 0
ReadsTouched D has crosses parts before now = (n : ℕ) → AreTouched D has crosses (heads_of parts) n → now ≤ before + n

-- a search for the k nearest: no more than the view's segments have leaves as near as the last of those found; as
-- leaves at all, where there are fewer than k
abbrev pub ReadsNear : (D : ℕ) → Files → Viewed → (k : ℕ) → List ℤ → SetData → (before now : ℕ) → Type 0
ReadsNear D files view k target s before now =
    (c : Contents) → StandsOver D files c s
    → (found : List Near)
    → IsNearest k (nears_of target (entries_seen c (viewed_parts view s) (viewed_buffer view s))) found
    → (leaves : ℕ) → AreNearLeaves D target (bound_of k found) (heads_of (viewed_parts view s)) leaves
    → now ≤ before + leaves

-- What a request reads at most, whatever is answered: queries read leaves that count; a document that the buffer has
-- room for, a commit where nothing changed, and a flush or commit where no segments are chosen to be merged read
-- nothing. What merges may read each leaf, and `reopen` reads what opening reads.
abbrev pub ReadsAtMost : (D : ℕ) (told : Type 0) → Request → Files → SessionData → (before now : ℕ) → Type 0
ReadsAtMost D told asks.Blank files s before now = now ≡ before
ReadsAtMost D told (asks.Create dims leaf_size) files s before now = now ≡ before
ReadsAtMost D told (asks.Add points) files s before now = length s.set.buffer + length points ≤ 16384 → now ≡ before
ReadsAtMost D told (asks.Delete doc) files s before now = now ≡ before
ReadsAtMost D told (asks.DeleteBox lo hi) files s before now =
    let bounds : Region =
    record { lo = lo; hi = hi } in ReadsTouched D (in_box bounds) (box.crosses bounds) s.set.parts before now
ReadsAtMost D told (asks.InBox view lo hi) files s before now =
    let bounds : Region =
    record { lo = lo; hi = hi } in ReadsTouched D (in_box bounds) (box.crosses bounds)
    (viewed_parts view s.set) before now
ReadsAtMost D told (asks.InPolygon view rings) files s before now =
    ReadsTouched D (polygon.has D (all_edges rings)) (polygon.crosses D (all_edges rings))
    (viewed_parts view s.set) before now
ReadsAtMost D told (asks.Nearest view k target) files s before now = told
    → ReadsNear D files view k target s.set before now
ReadsAtMost D told asks.Flush files s before now = IsSettled s.set → now ≡ before
ReadsAtMost D told asks.Merge files s before now = Unit {0}
ReadsAtMost D told (asks.MergeBegin positions) files s before now = Unit {0}
ReadsAtMost D told asks.MergeEnd files s before now = now ≡ before
ReadsAtMost D told (asks.Snapshot name) files s before now = now ≡ before
ReadsAtMost D told (asks.Release name) files s before now = now ≡ before
ReadsAtMost D told asks.Commit files s before now = IsUnchanged s ⊎ IsSettled s.set → now ≡ before
ReadsAtMost D told asks.Reopen files s before now = Unit {0}
