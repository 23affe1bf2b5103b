-- What lines ask for, how many leaves they touch, and how much they read.
use Rattle.std.specs.Prelude.{ℕ, ◌+◌, ◌≡◌, ◌≤◌, ◌<◌, ◌⊎◌, Bool, true, false, List, [], ◌∷◌, count_by, Option, None}
use Rattle.std.specs.Prelude.{Some, Ok, Err}
use Rattle.std.specs.Option.{option_map}
use Rattle.outer_io.specs.Files.{Files}
use Rattle.point_codec.specs.Points.{in_box}
use Rattle.cell_relate.specs.Boxes as boxes
use Rattle.ring_parity.specs.Rings.{all_edges}
use Rattle.polygon_query.specs.Shape as polygons
use Rattle.documents.specs.Documents.{Document}
use Rattle.documents.specs.Nearest.{nearest}
use Rattle.merge_policy.specs.Choice.{is_of_level}
use Rattle.segment_file.specs.Heads.{Head}
use Rattle.script_lang.specs.Requests.{Request}
use Rattle.script_lang.specs.Requests as asks
use Rattle.index_model.specs.State.{Index, State, viewed_docs, given_of}
use Rattle.index_model.specs.Step.{in_plane_polygon}
use Rattle.stored_index.specs.Opening.{IsOpening}
use Rattle.segment_view.specs.Costs.{AreTouched}
use Rattle.nearest_query.specs.Segments.{AreNearLeaves}
use Rattle.index_core.specs.Light.{is_light}
use Rattle.index_core.specs.Steps.{is_committing}
use Rattle.explain_queries.specs.Explained.{Scope, IsScope, reach}
use Rattle.script_run.specs.Languages.{LineRequest, answer, line_request, meaning}
use Rattle.script_run.specs.Script.{state_after}
use Rattle.script_run.specs.declared.language.Language.{Language}

-- ---- what lines ask for

-- the line is a query or asks nothing, so it changes no index
abbrev pub is_query : Request → Bool
is_query asks.Blank = true
is_query (asks.InBox view lo hi) = true
is_query (asks.InPolygon view rings) = true
is_query (asks.Nearest view k at) = true
is_query _ = false

-- the line is any but `merge begin`
abbrev pub begins_no_merge : Request → Bool
begins_no_merge (asks.MergeBegin positions) = false
begins_no_merge _ = true

-- what was read asks for a commit before the end
abbrev pub asks_commit : LineRequest → Bool
asks_commit (Ok request) = is_committing request
asks_commit (Err fault) = false

-- none of these lines does, as an index of so many dimensions reads them
abbrev pub NoneCommits : Language → (dims : ℕ) → List (List ℕ) → Type 0
NoneCommits lang dims [] = Unit {0}
NoneCommits lang dims (l ∷ ls) = (asks_commit (line_request lang (Some dims) l) ≡ false) × NoneCommits lang dims ls

-- the line is refused, or what it asks for passes the test
abbrev pub AsksOnly : Language → (Request → Bool) → (line : ℕ) → State → List ℕ → Type 0
AsksOnly lang test line state bytes =
    ((answer lang line state bytes).refused ≡ 1)
    ⊎ ((request : Request) × (line_request lang (option_map (λ i. i.dims) state) bytes ≡ Ok request)
    × (test request ≡ true))

-- each line of these does, the first of which has this number
abbrev pub AllAsk : Language → (Request → Bool) → (line : ℕ) → State → List (List ℕ) → Type 0
AllAsk lang test line state [] = Unit {0}
AllAsk lang test line state (l ∷ ls) = AsksOnly lang test line state l
    × AllAsk lang test (line + 1) (answer lang line state l).state ls

-- ---- how many leaves they touch

-- a query touches what it touches of the documents that it looks at, and nothing where there is no such snapshot
abbrev pub TouchesView : Option (List Document) → (List Document → ℕ → Type 0) → ℕ → Type 0
TouchesView None touches n = n ≡ 0
TouchesView (Some docs) touches n = touches docs n

-- over segments with these heads: the leaves whose own cell is not outside, or is as near as the last answer
abbrev pub TouchesOn : Index → List Head → Request → ℕ → Type 0
TouchesOn i heads (asks.InBox view lo hi) n =
    TouchesView (viewed_docs view i)
    (λ docs m. AreTouched i.dims (in_box (record { lo = lo; hi = hi }))
    (boxes.crosses (record { lo = lo; hi = hi })) heads m) n
TouchesOn i heads (asks.InPolygon view rings) n =
    TouchesView (viewed_docs view i)
    (λ docs m. AreTouched i.dims (in_plane_polygon i.dims rings)
    (polygons.crosses i.dims (all_edges rings)) heads m) n
TouchesOn i heads (asks.Nearest view k at) n =
    TouchesView (viewed_docs view i) (λ docs m. AreNearLeaves i.dims at (reach k (nearest k at docs)) heads m) n
TouchesOn i heads _ n = n ≡ 0

abbrev pub TouchesHeard : State → List Head → LineRequest → ℕ → Type 0
TouchesHeard None heads said n = n ≡ 0
TouchesHeard (Some i) heads (Ok request) n = TouchesOn i heads request n
TouchesHeard (Some i) heads (Err fault) n = n ≡ 0

abbrev pub TouchesLine : Language → List Head → State → List ℕ → ℕ → Type 0
TouchesLine lang heads state bytes n =
    TouchesHeard state heads (line_request lang (option_map (λ i. i.dims) state) bytes) n

-- lines, of which the first has this number, touch so many together
abbrev pub TouchesLines : Language → List Head → (line : ℕ) → State → List (List ℕ) → ℕ → Type 0
TouchesLines lang heads line state [] n = n ≡ 0
TouchesLines lang heads line state (l ∷ ls) n =
    (first : ℕ) × (rest : ℕ) × TouchesLine lang heads state l first
    × TouchesLines lang heads (line + 1) (answer lang line state l).state ls rest × (n ≡ first + rest)

-- ---- what they read

-- no level has ten segments
abbrev pub HasRoomInLevels : List Head → Type 0
HasRoomInLevels heads = (level : ℕ) → count_by (λ h. is_of_level level h.entries) heads < 10

-- Lines need no segment to be merged, over segments with these heads: they are light, the points that they add have
-- room in the buffer, and no level of the segments is full.
pub record AreLight (lang : Language) (heads : List Head) (line : ℕ) (state : State) (lines : List (List ℕ))
    : Type 0 where
  pub asks : AllAsk lang is_light line state lines
  pub points : given_of (state_after (meaning lang) line state lines) ≤ given_of state + 16384
  pub room : HasRoomInLevels heads

-- a run of queries, or of light lines, reads at most the pages of opening, and a page for each leaf that its queries
-- touch
abbrev pub RunReadsFew : Language → Files → List (List ℕ) → (before now : ℕ) → Type 0
RunReadsFew lang files lines before now =
    (s : Scope) → IsScope files s → (pages : ℕ) → IsOpening files pages → AllAsk lang is_query 1 s.state lines
    ⊎ AreLight lang s.heads 1 s.state lines
    → (touched : ℕ) → TouchesLines lang s.heads 1 s.state lines touched → now ≤ before + pages + touched
