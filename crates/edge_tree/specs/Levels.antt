-- Cells within cells, and what is kept of each to tell its points.
use Rattle.std.specs.Prelude.{◌≡◌, ℕ, ◌≤◌, ◌<◌, ◌*◌, ◌-◌, ◌^◌, ◌%◌, ◌==◌, min, int_lt, Bool, true, false, not, ◌&&◌}
use Rattle.std.specs.Prelude.{List, ℤ, length, map, filter, count_by, slice_range, slice_index_or}
use Rattle.std.specs.Bool.{beq}
use Rattle.point_codec.specs.Points.{Region}
use Rattle.point_codec.specs.Seen.{region_of}
use Rattle.ring_parity.specs.Edges.{EdgeEnds, x_of, is_above, counts, misses}
use Rattle.ring_parity.specs.Rings.{is_on_any, is_odd, AreClosed}
use Rattle.ring_parity.specs.Seen.{ends_of}
use Rattle.ring_parity.specs.declared.edges.Edge.{Edge}
use Rattle.edge_tree.specs.declared.level.Level.{Level}

-- just one of the two is true
abbrev pub differ : Bool → Bool → Bool
differ a b = not (beq a b)

-- a position is marked that is above q, and east of the first point
abbrev pub is_marked : List ℤ → List ℤ → List ℤ → Bool
is_marked from q v = is_above v q && int_lt (x_of from) (x_of v)

-- an edge turns q that counts for it, or has just one marked end, and not both. Closed edges have an even number of
-- edges with just one marked end (AreClosed), so of them an odd number turns q just where an odd number counts
abbrev pub turns : List ℤ → List ℤ → EdgeEnds → Bool
turns from q e = differ (counts e q) (differ (is_marked from q e.0) (is_marked from q e.1))

abbrev pub turn_oddly : List ℤ → List ℤ → List EdgeEnds → Bool
turn_oddly from q run = count_by (turns from q) run % 2 == 1

-- whether q is on an edge of the run, and whether an odd number of its edges turns q
pub record IsTurned (run : List EdgeEnds) (from q : List ℤ) (on odd : Bool) : Type 0 where
  pub on_is : is_on_any run q ≡ on
  pub odd_is : turn_oddly from q run ≡ odd

-- the first edges stand for all within the cell: as many of them pass each test that none passes that misses the cell
abbrev pub AreNear : Region → List EdgeEnds → List EdgeEnds → Type 0
AreNear cell near all = (test : EdgeEnds → Bool) → ((e : EdgeEnds) → misses e cell ≡ true → test e ≡ false)
    → count_by test near ≡ count_by test all

-- those of the edges that don't miss the cell
abbrev pub meeting : Region → List Edge → List Edge
meeting cell edges = filter (λ e. not (misses (ends_of e) cell)) edges

-- the edges of a level
abbrev pub near_of : List Edge → Level → List EdgeEnds
near_of listed l = map ends_of (slice_range listed l.first l.end)

-- a level's edges are near its cell, and the parity is that by which all others turn the cell's points
pub record IsLevel (edges : List EdgeEnds) (listed : List Edge) (l : Level) : Type 0 where
  pub ordered : l.first ≤ l.end
  pub there : l.end ≤ length listed
  pub near : AreNear (region_of l.cell) (near_of listed l) edges
  pub others : differ (is_odd edges l.cell.lo.c) (turn_oddly l.cell.lo.c l.cell.lo.c (near_of listed l)) ≡ l.odd

-- levels one on top of the other: no edge of a level is listed behind those of a later one
pub record AreLevels (edges : List EdgeEnds) (listed : List Edge) (levels : List Level) : Type 0 where
  pub each : (place : ℕ) (d : Level) → place < length levels → IsLevel edges listed (slice_index_or levels place d)
  pub stacked : (low high : ℕ) (d : Level) → low ≤ high → high < length levels
      → (slice_index_or levels low d).end ≤ (slice_index_or levels high d).end

-- the room for the edges of all levels, eight times that of all edges
abbrev pub room_for : List EdgeEnds → ℕ
room_for edges = min (length edges * 8) (2 ^ 64 - 1)

-- the edges close up, and the room is the one that was taken at the beginning
pub record IsLocator (edges : List EdgeEnds) (listed : List Edge) (levels : List Level) (room places : ℕ) : Type 0 where
  pub closed : AreClosed edges
  pub are_levels : AreLevels edges listed levels
  pub room_taken : room ≡ room_for edges
  pub places_taken : places ≡ 84
