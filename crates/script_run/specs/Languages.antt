-- The languages of scripts: what a line says in each, what it answers and leaves, and which lines commit.
use Rattle.std.specs.Prelude.{ℕ, Bool, true, false, List, Option, None, Some, Result, Ok, Err}
use Rattle.std.specs.Option.{option_map}
use Rattle.script_lang.specs.Requests.{Request}
use Rattle.script_lang.specs.Requests as asks
use Rattle.script_lang.specs.Reading.{read}
use Rattle.range_docs.specs.Reading.{RangeReading, as_points, range_read}
use Rattle.range_docs.specs.Replies.{range_fault_text}
use Rattle.range_docs.specs.Seen.{request_in}
use Rattle.range_docs.specs.declared.faults.RangeFault.{RangeFault}
use Rattle.index_model.specs.State.{State}
use Rattle.index_model.specs.Step.{step}
use Rattle.index_model.specs.Script.{Answer, answer_to}
use Rattle.script_run.specs.Script.{Meaning}
use Rattle.script_run.specs.declared.language.Language.{Language}
use Rattle.script_run.specs.declared.language.Language.TheVariants.{Points, Ranges}

-- what a line asks of the points, or its fault
abbrev pub LineRequest : Type 0
LineRequest = Result Request RangeFault

-- a line, read where an index of so many dimensions is there, or none
unfoldable pub read_in : Language → Option ℕ → List ℕ → RangeReading
read_in Points dims line = as_points (read dims line)
read_in Ranges dims line = range_read dims line

abbrev pub line_request : Language → Option ℕ → List ℕ → LineRequest
line_request lang dims line = request_in (read_in lang dims line)

-- what is answered where this was heard: a line that cannot be read is refused, and leaves the state
abbrev pub answer_of : ℕ → State → LineRequest → Answer
answer_of line state (Ok request) = answer_to line state (step state request)
answer_of line state (Err fault) = record { state = state; text = range_fault_text line fault; refused = 1 }

-- the answer to a line, given its number, the state and its bytes
unfoldable pub answer : Language → ℕ → State → List ℕ → Answer
answer lang line state bytes = answer_of line state (line_request lang (option_map (λ i. i.dims) state) bytes)

-- a request commits: it is that of `commit`, or of `reopen`, which commits too; where an index is there neither is ever
-- refused
abbrev pub asks_commit : LineRequest → Bool
asks_commit (Ok asks.Commit) = true
asks_commit (Ok asks.Reopen) = true
asks_commit _ = false

-- a line commits; without an index none does
abbrev pub commits : Language → State → List ℕ → Bool
commits lang None bytes = false
commits lang (Some i) bytes = asks_commit (line_request lang (Some i.dims) bytes)

-- what lines mean in a language
abbrev pub meaning : Language → Meaning
meaning lang = record { answer = answer lang; commits = commits lang }
