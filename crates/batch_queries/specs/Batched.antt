-- What a batch tells. Lines are read as those of a script. A query of the documents live now is replied as a script's
-- line is; all else is refused.
use Rattle.std.specs.Prelude.{ℕ, ◌≡◌, List, [], None, Some}
use Rattle.std.specs.Option.{option_map}
use Rattle.script_lang.specs.Reading.{Reading, Says, Fails, read}
use Rattle.script_lang.specs.Replies.{line_fault_text, refused_text}
use Rattle.script_lang.specs.Requests.{Request}
use Rattle.script_lang.specs.Requests as asks
use Rattle.script_lang.specs.declared.faults.Refusal.TheVariants as why
use Rattle.index_model.specs.State.{Index, State}
use Rattle.index_model.specs.Step.{Outcome, Done, Refused, step_on}
use Rattle.run_status.specs.Told.{TellsAll, Told, silence, refusal}

-- the text of an answer
abbrev pub text_of : Outcome → List ℕ
text_of (Done state text) = text
text_of (Refused cause) = []

-- what the step answers on the index
abbrev pub reply_text : Index → Request → List ℕ
reply_text i request = text_of (step_on i request)

abbrev pub told_reply : List ℕ → Told
told_reply text = record { text = text; refused = 0; touched = 0 }

-- Of a request over an index. What is stored has no snapshot.
abbrev pub told_on : Index → (line : ℕ) → Request → Told
told_on i line asks.Blank = silence
told_on i line (asks.InBox None lo hi) = told_reply (reply_text i (asks.InBox None lo hi))
told_on i line (asks.InPolygon None rings) = told_reply (reply_text i (asks.InPolygon None rings))
told_on i line (asks.Nearest None k at) = told_reply (reply_text i (asks.Nearest None k at))
told_on i line (asks.InBox (Some name) lo hi) = refusal (refused_text line why.UnknownSnapshot)
told_on i line (asks.InPolygon (Some name) rings) = refusal (refused_text line why.UnknownSnapshot)
told_on i line (asks.Nearest (Some name) k at) = refusal (refused_text line why.UnknownSnapshot)
told_on i line _ = refusal (refused_text line why.NotQuery)

-- of a request where no index is there: it is none, or asks for a new one
abbrev pub told_first : (line : ℕ) → Request → Told
told_first line asks.Blank = silence
told_first line _ = refusal (refused_text line why.NotQuery)

abbrev pub told_in : State → (line : ℕ) → Request → Told
told_in None line request = told_first line request
told_in (Some i) line request = told_on i line request

abbrev pub told_of : State → (line : ℕ) → Reading → Told
told_of state line (Says request) = told_in state line request
told_of state line (Fails fault) = refusal (line_fault_text line fault)

-- of a line with this number
abbrev pub TellsBatch : State → (line : ℕ) → List ℕ → Told → Type 0
TellsBatch state line bytes t = t ≡ told_of state line (read (option_map (λ i. i.dims) state) bytes)

-- the text of all lines over a state, and how many of them are refused
abbrev pub IsBatchText : State → List (List ℕ) → (text : List ℕ) (refused : ℕ) → Type 0
IsBatchText state lines text refused = TellsAll (Unit {0}) (TellsBatch state) 1 lines [] text refused
