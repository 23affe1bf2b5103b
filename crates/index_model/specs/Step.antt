-- What one request answers and leaves, over one list of documents: each answer is that list filtered or ordered.
use Rattle.std.specs.Prelude.{ℕ, ◌+◌, ◌^◌, Bool, true, false, not, ◌&&◌, ◌==◌, if◌then◌else◌, nat_lt, nat_le, List, []}
use Rattle.std.specs.Prelude.{◌∷◌, ◌++◌, map, filter, length, Option, None, Some, is_some, ℤ}
use Rattle.std.specs.Str.{bytes_eq}
use Rattle.point_codec.specs.Points.{in_box}
use Rattle.ring_parity.specs.Rings.{in_polygon}
use Rattle.documents.specs.Documents.{Document, hits, docs_failing, is_live, docs_without}
use Rattle.documents.specs.Nearest.{nearest}
use Rattle.script_lang.specs.Requests.{Request}
use Rattle.script_lang.specs.Requests as asks
use Rattle.script_lang.specs.Replies.{ok_text, doc_text, deleted_text, hits_text, near_text}
use Rattle.script_lang.specs.declared.faults.Refusal.{Refusal}
use Rattle.script_lang.specs.declared.faults.Refusal.TheVariants as why
use Rattle.index_model.specs.State.{Index, State, new_index, snapshot_of, viewed_docs, at_rest}

-- a request is done, with the state after it and the text of its answer, or refused, which leaves the state
pub data Outcome : Type 0 where
  Done : (state : State) (text : List ℕ) → Outcome
  Refused : (cause : Refusal) → Outcome

-- the index goes on like this, and the answer is `ok`
abbrev pub done_ok : Index → Outcome
done_ok i = Done (Some i) ok_text

-- a query is answered from the documents that it looks at
abbrev pub query_outcome : Index → Option (List Document) → (List Document → List ℕ) → Outcome
query_outcome i None text = Refused why.UnknownSnapshot
query_outcome i (Some docs) text = Done (Some i) (text docs)

-- a document of the next number is added, where no more than 16,777,216 points are given with it
abbrev pub add_outcome : List (List ℤ) → Index → Outcome
add_outcome points i =
    if nat_lt (2 ^ 24) (i.points_given + length points) then Refused why.Full
    else Done
    (Some (record i {
      next = i.next + 1;
      points_given = i.points_given + length points;
      docs = i.docs ++ record
          { number = i.next; points = points } ∷ [];
    }))
    (doc_text i.next)

-- the live documents are kept under a name that no snapshot has, where fewer than 16 are there
abbrev pub snapshot_outcome : List ℕ → Index → Outcome
snapshot_outcome name i =
    if is_some (snapshot_of name i.snapshots) then Refused why.NameTaken
    else if nat_le 16 (length i.snapshots) then Refused why.TooManySnapshots
    else done_ok (record i { snapshots = i.snapshots ++ record { name = name; docs = i.docs } ∷ [] })

-- the snapshot of this name goes
abbrev pub release_outcome : List ℕ → Index → Outcome
release_outcome name i =
    if is_some (snapshot_of name i.snapshots)
    then done_ok (record i { snapshots = filter (λ s. not (bytes_eq s.name name)) i.snapshots })
    else Refused why.UnknownSnapshot

-- p is in the polygon of these rings; in other than two dimensions no point is
abbrev pub in_plane_polygon : ℕ → List (List (List ℤ)) → List ℤ → Bool
in_plane_polygon dims rings p = dims == 2 && in_polygon rings p

-- what a request does on an index
unfoldable pub step_on : Index → Request → Outcome
step_on i asks.Blank = Done (Some i) []
step_on i (asks.Create dims leaf_size) = Refused why.Exists
step_on i (asks.Add points) = add_outcome points i
step_on i (asks.Delete doc) =
    Done (Some (record i { docs = docs_without doc i.docs })) (deleted_text (if is_live doc i.docs then 1 else 0))
step_on i (asks.DeleteBox lo hi) =
    let test = in_box (record { lo = lo; hi = hi }) in
    Done (Some (record i { docs = docs_failing test i.docs })) (deleted_text (length (hits test i.docs)))
step_on i (asks.InBox view lo hi) =
    query_outcome i (viewed_docs view i) (λ docs. hits_text (hits (in_box (record { lo = lo; hi = hi })) docs))
step_on i (asks.InPolygon view rings) =
    query_outcome i (viewed_docs view i) (λ docs. hits_text (hits (in_plane_polygon i.dims rings) docs))
step_on i (asks.Nearest view k target) =
    query_outcome i (viewed_docs view i) (λ docs. near_text (map (λ found. (found.1, found.0)) (nearest k target docs)))
step_on i asks.Flush = done_ok i
step_on i asks.Merge = done_ok i
step_on i (asks.MergeBegin positions) = if i.begun then Refused why.Begun else done_ok (record i { begun = true })
step_on i asks.MergeEnd = if i.begun then done_ok (record i { begun = false }) else Refused why.NotBegun
step_on i (asks.Snapshot name) = snapshot_outcome name i
step_on i (asks.Release name) = release_outcome name i
step_on i asks.Commit = done_ok i
step_on i asks.Reopen = done_ok (at_rest i)

-- what a request does. Without an index a line asks for nothing, or for a new one
abbrev pub step : State → Request → Outcome
step None (asks.Create dims leaf_size) = done_ok (new_index dims leaf_size)
step None request = Done None []
step (Some i) request = step_on i request

-- the state after a request
abbrev pub left_by : State → Outcome → State
left_by state (Done after text) = after
left_by state (Refused cause) = state
