-- What counting tells: how many points of the live documents lie in a box, and how many in each bucket of a grid.
use Rattle.std.specs.Prelude.{ℕ, ◌≡◌, ◌⊎◌, List, [], None, Some, Ok, Err}
use Rattle.std.specs.List.{count_by, sum_by}
use Rattle.std.specs.Option.{option_map}
use Rattle.outer_io.specs.declared.file_name.FileName.TheVariants.{Commit}
use Rattle.outer_io.specs.Files.{Files, bytes_of}
use Rattle.point_codec.specs.Points.{Region, in_box}
use Rattle.cell_relate.specs.Boxes.{crosses}
use Rattle.documents.specs.Documents.{Document}
use Rattle.documents.specs.Entries.{entries_in}
use Rattle.commit_list.specs.Commits.{CommitData}
use Rattle.commit_list.specs.CommitFiles.{IsCommitFile}
use Rattle.segment_file.specs.Heads.{Head}
use Rattle.script_lang.specs.Replies.{line_fault_text, refusal_text}
use Rattle.index_model.specs.State.{Index, State}
use Rattle.stored_index.specs.Stored.{HaveHeads, HaveLive, IsStored}
use Rattle.segment_view.specs.LiveSegments.{LiveSegment, heads_of, lives_of}
use Rattle.point_counts.specs.Grids.{IsGrid, Judges, Plan}
use Rattle.point_counts.specs.Costs.{OpensLeaves, is_parted}
use Rattle.point_counts.specs.declared.plan.Bucket.{Bucket}
use Rattle.point_counts.specs.declared.plan.GridFault.{GridFault}
use Rattle.run_status.specs.Told.{Told, silence, refusal}
use Rattle.count_queries.specs.Texts.{buckets_text, grid_fault_text, points_text}
use Rattle.count_queries.specs.Asks.{Ask, Blank, Points, Grid, CountReading, Says, Fails, read_counts}

-- ---- what is looked at

-- the state that the files store, and its segments with their live numbers
pub record Scope : Type 0 where
  pub state : State
  pub parts : List LiveSegment

-- these are the segments that the commit lists, as their files have them; without a commit there is none
abbrev pub AreStoredParts : Files → State → List LiveSegment → Type 0
AreStoredParts files None parts = parts ≡ []
AreStoredParts files (Some i) parts =
    (c : CommitData) × IsCommitFile (bytes_of (files Commit)) c × HaveHeads files c (heads_of parts)
    × HaveLive files c (lives_of parts)

pub record IsScope (files : Files) (s : Scope) : Type 0 where
  pub stored : IsStored files s.state
  pub parts : AreStoredParts files s.state s.parts

-- the heads of its segments
abbrev pub scope_heads : Scope → List Head
scope_heads s = heads_of s.parts

-- where no index is there
abbrev pub bare : Scope
bare = record { state = None; parts = [] }

-- ---- what is told

-- how many points of the documents lie in the box
abbrev pub points_in : Region → List Document → ℕ
points_in bounds docs = sum_by (λ d. count_by (in_box bounds) d.points) docs

-- ---- a line

-- of a box: it touches the leaves that may be read
pub record TellsPoints (i : Index) (parts : List LiveSegment) (bounds : Region) (t : Told) : Type 0 where
  pub touches : OpensLeaves i.dims bounds (crosses bounds) parts t.touched
  pub text : t.text ≡ points_text (points_in bounds i.docs)
  pub done : t.refused ≡ 0

-- of a plan: its buckets that have a point of a document
pub record TellsBuckets (i : Index) (parts : List LiveSegment) (plan : Plan) (t : Told) : Type 0 where
  pub buckets : List Bucket
  pub grid : IsGrid plan (entries_in i.docs) buckets
  pub touches : OpensLeaves i.dims plan.bounds (is_parted plan) parts t.touched
  pub text : t.text ≡ buckets_text buckets
  pub done : t.refused ≡ 0

-- there is no such grid of this index
abbrev pub RefusesGrid : Index → (line : ℕ) → Plan → Told → Type 0
RefusesGrid i line plan t =
    (f : GridFault) × Judges i.dims plan (Err f) × (t ≡ refusal (refusal_text line (grid_fault_text f)))

-- of an ask over an index
abbrev pub TellsOn : Index → List LiveSegment → (line : ℕ) → Ask → Told → Type 0
TellsOn i parts line Blank t = t ≡ silence
TellsOn i parts line (Points bounds) t = TellsPoints i parts bounds t
TellsOn i parts line (Grid plan) t =
    RefusesGrid i line plan t ⊎ (Judges i.dims plan (Ok plan) × TellsBuckets i parts plan t)

-- without an index there is nothing to tell
abbrev pub TellsIn : State → List LiveSegment → (line : ℕ) → Ask → Told → Type 0
TellsIn None parts line ask t = t ≡ silence
TellsIn (Some i) parts line ask t = TellsOn i parts line ask t

abbrev pub TellsReading : Scope → (line : ℕ) → CountReading → Told → Type 0
TellsReading s line (Says ask) t = TellsIn s.state s.parts line ask t
TellsReading s line (Fails fault) t = t ≡ refusal (line_fault_text line fault)

-- of a line with this number
abbrev pub TellsCount : Scope → (line : ℕ) → List ℕ → Told → Type 0
TellsCount s line bytes t = TellsReading s line (read_counts (option_map (λ i. i.dims) s.state) bytes) t
