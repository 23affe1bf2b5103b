-- Points that are ranges stay so: what a line of ranges adds are ranges.
use Rattle.std.proofs.Common.{◌≡◌, ◌/◌, ◌%◌, ℕ, Bool, true, false, cond, not, List, [], ◌∷◌}
use Rattle.std.proofs.Common.{Some, None, Ok, Err, refl, subst}
use Rattle.std.specs.Prelude.{All, nat_eq}
use Rattle.std.specs.Option.{option_map}
use Rattle.std.specs.Str.{bytes_eq}
use Rattle.std.proofs.lemmas.List.Elements.{All-append, All-cons, All-filter, All-head, All-nil, All-tail}
use Rattle.point_codec.specs.Points.{in_box}
use Rattle.documents.specs.Documents.{Document, passes}
use Rattle.script_lang.specs.Requests.{Request, Viewed}
use Rattle.script_lang.specs.Requests as asks
use Rattle.script_lang.specs.declared.faults.Refusal.TheVariants as why
use Rattle.range_docs.specs.Ranges.{AreEnds}
use Rattle.range_docs.specs.Reading.{Asks, Finds, RangeReading, RangeRequest, range_read}
use Rattle.range_docs.specs.Seen.{AddsRanges, request_in, of_points}
use Rattle.range_docs.proofs.Sound.{names_ranges}
use Rattle.index_model.specs.State.{Index, Snapshot, State, snapshot_of, viewed_docs}
use Rattle.index_model.specs.Step.{Refused, done_ok, step, step_on}
use Rattle.index_model.specs.Script.{answer_to}
use Rattle.script_run.specs.Languages.{answer, answer_of, read_in}
use Rattle.script_run.specs.RangeScript.{AreRanges, HaveRanges}
use Rattle.script_run.specs.Script.{final}
use Rattle.script_run.specs.declared.language.Language.TheVariants.{Ranges}
use Rattle.script_run.proofs.Asking.{are_many, either, is_full, is_taken, let_go, more, queried, taken, taken_if}

module _ (line : ℕ) (i : Index) where
  abbrev KeptBy : Snapshot → Type 0
  KeptBy s = HaveRanges (i.dims / 2) s.docs

  -- a request leaves ranges, where it adds ranges
  pub request_keeps : (r : Request) → AddsRanges (i.dims / 2) r → AreRanges (Some i) → AreRanges (answer_to line (Some i) (step_on i r)).state
  unfolding step_on
  request_keeps (asks.Add points) adds h =
      either AreRanges line i (is_full points i) (Refused why.Full) (more points i) h (λ even.
      let new : Document = record { number = i.next; points = points } in
      let one : All (λ (d : Document). All (AreEnds (i.dims / 2)) d.points) (new ∷ []) =
      All-cons (λ (d : Document). All (AreEnds (i.dims / 2)) d.points) new [] adds (All-nil (λ (d : Document). All (AreEnds (i.dims / 2)) d.points)) in
      (All-append (λ (d : Document). All (AreEnds (i.dims / 2)) d.points) i.docs (new ∷ []) (h even).0 one, (h even).1))
  request_keeps (asks.Delete doc) adds h = λ even.
      (All-filter (λ (d : Document). not (nat_eq d.number doc)) (λ (d : Document). All (AreEnds (i.dims / 2)) d.points) i.docs (h even).0, (h even).1)
  request_keeps (asks.DeleteBox lo hi) adds h = λ even. (
    All-filter (λ (d : Document). not (passes (in_box (record { lo = lo; hi = hi })) d)) (λ (d : Document). All (AreEnds (i.dims / 2)) d.points) i.docs
        (h even).0,
    (h even).1,
  )
  request_keeps (asks.InBox view lo hi) adds h = queried AreRanges line i (viewed_docs view i) _ h
  request_keeps (asks.InPolygon view rings) adds h = queried AreRanges line i (viewed_docs view i) _ h
  request_keeps (asks.Nearest view k at) adds h = queried AreRanges line i (viewed_docs view i) _ h
  request_keeps (asks.MergeBegin positions) adds h = either AreRanges line i i.begun (Refused why.Begun) (done_ok (record i { begun = true })) h h
  request_keeps asks.MergeEnd adds h = either AreRanges line i i.begun (done_ok (record i { begun = false })) (Refused why.NotBegun) h h
  request_keeps (asks.Snapshot name) adds h =
      either AreRanges line i (is_taken name i) (Refused why.NameTaken) (taken_if name i) h
      (either AreRanges line i (are_many i) (Refused why.TooManySnapshots) (taken name i) h (λ even.
      let new : Snapshot = record { name = name; docs = i.docs } in
      ((h even).0, All-append KeptBy i.snapshots (new ∷ []) (h even).1 (All-cons KeptBy new [] (h even).0 (All-nil KeptBy)))))
  request_keeps (asks.Release name) adds h =
      either AreRanges line i (is_taken name i) (let_go name i) (Refused why.UnknownSnapshot)
      (λ even. ((h even).0, All-filter (λ (s : Snapshot). not (bytes_eq s.name name)) KeptBy i.snapshots (h even).1)) h
  request_keeps asks.Reopen adds h = λ even. ((h even).0, All-nil KeptBy)
  request_keeps r adds h = h

-- a new index has no point
first_keeps : (line : ℕ) (r : Request) → AreRanges (answer_to line None (step None r)).state
first_keeps line (asks.Create dims leaf_size) = λ even.
    (All-nil (λ (d : Document). All (AreEnds (dims / 2)) d.points), All-nil (λ (s : Snapshot). HaveRanges (dims / 2) s.docs))
first_keeps line r = tt

-- what is asked of the points adds ranges
adds_ranges : (dims : ℕ) (bytes : List ℕ) (request : RangeRequest) → range_read (Some dims) bytes ≡ Ok request → AddsRanges (dims / 2) (of_points request)
adds_ranges dims bytes (Asks r) is = names_ranges dims bytes (Asks r) is
adds_ranges dims bytes (Finds question view query) is = tt

-- a line of ranges leaves ranges
pub line_keeps : (line : ℕ) (state : State) (bytes : List ℕ) → AreRanges state → AreRanges (answer Ranges line state bytes).state
unfolding answer read_in
line_keeps line None bytes h = by (range_read None bytes)
  where
    by : (reading : RangeReading) → AreRanges (answer_of line None (request_in reading)).state
    by (Ok request) = first_keeps line (of_points request)
    by (Err f) = tt
line_keeps line (Some i) bytes h = by (range_read (Some i.dims) bytes) refl
  where
    by : (reading : RangeReading) → range_read (Some i.dims) bytes ≡ reading → AreRanges (answer_of line (Some i) (request_in reading)).state
    by (Ok request) is = request_keeps line i (of_points request) (adds_ranges i.dims bytes request is) h
    by (Err f) is = h

-- what a session leaves is a part of it
pub final_keeps : (state : State) → AreRanges state → AreRanges (final state)
final_keeps None h = tt
final_keeps (Some i) h = λ even. ((h even).0, All-nil (λ (s : Snapshot). HaveRanges (i.dims / 2) s.docs))

-- ---- what a question looks at

kept_there : (r : ℕ) (name : List ℕ) (snapshots : List Snapshot) (docs : List Document) → All (λ (s : Snapshot). HaveRanges r s.docs) snapshots
    → option_map (λ (s : Snapshot). s.docs) (snapshot_of name snapshots) ≡ Some docs → HaveRanges r docs
kept_there r name [] docs all e = cc
kept_there r name (s ∷ ss) docs all e =
    by (bytes_eq s.name name) (kept_there r name ss docs (All-tail (λ (t : Snapshot). HaveRanges r t.docs) s ss all)) e
  where
    by : (b : Bool) → (option_map (λ (t : Snapshot). t.docs) (snapshot_of name ss) ≡ Some docs → HaveRanges r docs)
        → option_map (λ (t : Snapshot). t.docs) (cond b (Some s) (snapshot_of name ss)) ≡ Some docs → HaveRanges r docs
    by true others same = let is : s.docs ≡ docs = cc in subst (HaveRanges r) is (All-head (λ (t : Snapshot). HaveRanges r t.docs) s ss all)
    by false others same = others same

-- the documents of a view have ranges
pub viewed_ranges : (view : Viewed) (i : Index) (docs : List Document) → i.dims % 2 ≡ 0 → AreRanges (Some i) → viewed_docs view i ≡ Some docs
    → HaveRanges (i.dims / 2) docs
viewed_ranges None i docs even h e = let is : i.docs ≡ docs = cc in subst (HaveRanges (i.dims / 2)) is (h even).0
viewed_ranges (Some name) i docs even h e = kept_there (i.dims / 2) name i.snapshots docs (h even).1 e
