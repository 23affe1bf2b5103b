-- What a script of ranges answers and leaves, said by the points of ranges: a document is found where one of its ranges
-- is an answer.
use Rattle.std.specs.Prelude.{ℕ, ◌≡◌, ◌/◌, ◌%◌, Bool, List, [], All, Some, None, Ok, Err}
use Rattle.std.specs.Option.{option_map}
use Rattle.outer_io.specs.Files.{Files}
use Rattle.documents.specs.Documents.{Document, hits}
use Rattle.point_codec.specs.Points.{Region}
use Rattle.script_lang.specs.Replies.{hits_text}
use Rattle.range_docs.specs.Ranges.{AreEnds, Decides, range_of}
use Rattle.range_docs.specs.Reading.{Asks, Finds, RangeReading, RangeRequest, range_read}
use Rattle.range_docs.specs.Replies.{range_fault_text}
use Rattle.range_docs.specs.declared.ranges.Question.{Question}
use Rattle.index_model.specs.State.{State, viewed_docs}
use Rattle.index_model.specs.Step.{Outcome, Done, query_outcome, step}
use Rattle.index_model.specs.Script.{Answer, answer_to}
use Rattle.stored_index.specs.Stored.{IsStored}
use Rattle.run_status.specs.declared.status.Status.{Status}
use Rattle.script_run.specs.Languages.{commits}
use Rattle.script_run.specs.Progress.{ScriptPlace}
use Rattle.script_run.specs.Runs.{Ends}
use Rattle.script_run.specs.Script.{Meaning}
use Rattle.script_run.specs.declared.language.Language.TheVariants.{Ranges}

-- a test of whether a stored range is an answer on a query
abbrev pub Test : Type 0
Test = Question → (stored query : Region) → Bool

-- what a request does: one that looks for ranges finds the documents of which some range passes the test
abbrev pub step_on_ranges : Test → State → RangeRequest → Outcome
step_on_ranges test state (Asks request) = step state request
step_on_ranges test None (Finds question view query) = Done None []
step_on_ranges test (Some i) (Finds question view query) =
    query_outcome i (viewed_docs view i)
    (λ docs. hits_text (hits (λ p. test question (range_of (i.dims / 2) p) query) docs))

abbrev pub range_answer_of : Test → ℕ → State → RangeReading → Answer
range_answer_of test line state (Ok request) = answer_to line state (step_on_ranges test state request)
range_answer_of test line state (Err fault) = record { state = state; text = range_fault_text line fault; refused = 1 }

-- the answer to a line, given its number, the state and its bytes
unfoldable pub range_answer : Test → ℕ → State → List ℕ → Answer
range_answer test line state bytes = range_answer_of test line state (range_read (option_map (λ i. i.dims) state) bytes)

-- what lines of ranges mean
abbrev pub range_script : Test → Meaning
range_script test = record { answer = range_answer test; commits = commits Ranges }

-- each point of the documents is a range of r dimensions
abbrev pub HaveRanges : ℕ → List Document → Type 0
HaveRanges r docs = All (λ d. All (AreEnds r) d.points) docs

-- each point that is live, or kept by a snapshot, is a range, where the number of dimensions isn't odd
abbrev pub AreRanges : State → Type 0
AreRanges None = Unit {0}
AreRanges (Some i) = i.dims % 2 ≡ 0 → HaveRanges (i.dims / 2) i.docs
    × All (λ s. HaveRanges (i.dims / 2) s.docs) i.snapshots

-- A run over ranges ends as a script whose test decides what is an answer, and what the folder stores are ranges again.
pub record EndsRanges (told : Type 0) (p : ScriptPlace) (files : Files) (new : List ℕ) (s : Status) : Type 0 where
  pub ends : (test : Test) → Decides test → Ends (range_script test) told p files new s
  pub ranges : (after : State) × IsStored files after × AreRanges after
