-- What explaining queries tells. Lines are read as those of a script; of a query it is told how much of the stored
-- segments is tested and touched, and how much is found, each leaf judged by its own cell.
use Rattle.std.specs.Prelude.{ℕ, ◌≡◌, Bool, if◌then◌else◌, nat_lt, List, [], ◌++◌, length, Option, None, Some}
use Rattle.std.specs.Prelude.{codes, decimal, ℤ}
use Rattle.std.specs.List.{last_or}
use Rattle.std.specs.Option.{option_map}
use Rattle.outer_io.specs.declared.file_name.FileName.TheVariants.{Commit}
use Rattle.outer_io.specs.Files.{Files, bytes_of}
use Rattle.point_codec.specs.Points.{Region, in_box}
use Rattle.cell_relate.specs.Boxes as boxes
use Rattle.ring_parity.specs.Rings.{all_edges}
use Rattle.polygon_query.specs.Shape as polygons
use Rattle.documents.specs.Documents.{Document, hits}
use Rattle.documents.specs.Nearest.{nearest}
use Rattle.commit_list.specs.Commits.{CommitData}
use Rattle.commit_list.specs.CommitFiles.{IsCommitFile}
use Rattle.segment_file.specs.Heads.{Head}
use Rattle.script_lang.specs.Reading.{Reading, Says, Fails, read}
use Rattle.script_lang.specs.Replies.{text_line, line_fault_text, refused_text}
use Rattle.script_lang.specs.Requests.{Request}
use Rattle.script_lang.specs.Requests as asks
use Rattle.script_lang.specs.declared.faults.Refusal.TheVariants as why
use Rattle.index_model.specs.State.{Index, State}
use Rattle.index_model.specs.Step.{in_plane_polygon}
use Rattle.stored_index.specs.Stored.{HaveHeads, IsStored}
use Rattle.segment_view.specs.Costs.{AreTested, AreTouched}
use Rattle.run_status.specs.Told.{Told, silence, refusal}
use Rattle.nearest_query.specs.Segments.{AreNearLeaves}

-- ---- what is looked at

-- the state that the files store, and the heads of its segments
pub record Scope : Type 0 where
  pub state : State
  pub heads : List Head

-- these are the heads of the segments that the commit lists; without a commit there is none
abbrev pub AreStoredHeads : Files → State → List Head → Type 0
AreStoredHeads files None heads = heads ≡ []
AreStoredHeads files (Some i) heads = (c : CommitData) × IsCommitFile (bytes_of (files Commit)) c
    × HaveHeads files c heads

pub record IsScope (files : Files) (s : Scope) : Type 0 where
  pub stored : IsStored files s.state
  pub heads : AreStoredHeads files s.state s.heads

-- the heads of its segments
abbrev pub scope_heads : Scope → List Head
scope_heads s = s.heads

-- where no index is there
abbrev pub bare : Scope
bare = record { state = None; heads = [] }

-- ---- what is told

unfoldable pub shape_text : (tested touched hits : ℕ) → List ℕ
shape_text tested touched hits =
    text_line (codes "tested " ++ decimal tested ++ codes " touched " ++ decimal touched ++ codes " hits " ++ decimal
    hits)

unfoldable pub near_text : (touched near : ℕ) → List ℕ
near_text touched near = text_line (codes "touched " ++ decimal touched ++ codes " near " ++ decimal near)

-- ---- a query

-- a box or a polygon: the entries in leaves whose own cell it crosses, the leaves whose own cell is not outside, and
-- its hits
pub record TellsShape (dims : ℕ) (heads : List Head) (docs : List Document) (has : List ℤ → Bool)
    (crosses : Region → Bool) (t : Told) : Type 0 where
  pub tested : ℕ
  pub tests : AreTested dims crosses heads tested
  pub touches : AreTouched dims has crosses heads t.touched
  pub text : t.text ≡ shape_text tested t.touched (length (hits has docs))
  pub done : t.refused ≡ 0

-- how far a query for the k nearest goes that finds these: as far as the last, and over all where there are fewer
abbrev pub reach : ℕ → List (ℕ × ℕ) → Option ℕ
reach k found = if nat_lt (length found) k then None else option_map (λ f. f.0) (last_or None found)

-- a query for the nearest: the leaves as near as the last one found, and how many are found
pub record TellsNear (dims : ℕ) (heads : List Head) (docs : List Document) (k : ℕ) (at : List ℤ) (t : Told)
    : Type 0 where
  pub touches : AreNearLeaves dims at (reach k (nearest k at docs)) heads t.touched
  pub text : t.text ≡ near_text t.touched (length (nearest k at docs))
  pub done : t.refused ≡ 0

-- ---- a line

-- Of a request over an index. What is stored has no snapshot.
abbrev pub TellsOn : Index → List Head → (line : ℕ) → Request → Told → Type 0
TellsOn i heads line asks.Blank t = t ≡ silence
TellsOn i heads line (asks.InBox None lo hi) t =
    TellsShape i.dims heads i.docs (in_box (record { lo = lo; hi = hi }))
    (boxes.crosses (record { lo = lo; hi = hi })) t
TellsOn i heads line (asks.InPolygon None rings) t =
    TellsShape i.dims heads i.docs (in_plane_polygon i.dims rings) (polygons.crosses i.dims (all_edges rings)) t
TellsOn i heads line (asks.Nearest None k at) t = TellsNear i.dims heads i.docs k at t
TellsOn i heads line (asks.InBox (Some name) lo hi) t = t ≡ refusal (refused_text line why.UnknownSnapshot)
TellsOn i heads line (asks.InPolygon (Some name) rings) t = t ≡ refusal (refused_text line why.UnknownSnapshot)
TellsOn i heads line (asks.Nearest (Some name) k at) t = t ≡ refusal (refused_text line why.UnknownSnapshot)
TellsOn i heads line _ t = t ≡ refusal (refused_text line why.NotQuery)

-- of a request where no index is there: it is none, or asks for a new one
abbrev pub TellsFirst : (line : ℕ) → Request → Told → Type 0
TellsFirst line asks.Blank t = t ≡ silence
TellsFirst line _ t = t ≡ refusal (refused_text line why.NotQuery)

abbrev pub TellsIn : State → List Head → (line : ℕ) → Request → Told → Type 0
TellsIn None heads line request t = TellsFirst line request t
TellsIn (Some i) heads line request t = TellsOn i heads line request t

abbrev pub Tells : Scope → (line : ℕ) → Request → Told → Type 0
Tells s line request t = TellsIn s.state s.heads line request t

abbrev pub TellsReading : Scope → (line : ℕ) → Reading → Told → Type 0
TellsReading s line (Says request) t = Tells s line request t
TellsReading s line (Fails fault) t = t ≡ refusal (line_fault_text line fault)

-- of a line with this number
abbrev pub TellsLine : Scope → (line : ℕ) → List ℕ → Told → Type 0
TellsLine s line bytes t = TellsReading s line (read (option_map (λ i. i.dims) s.state) bytes) t
