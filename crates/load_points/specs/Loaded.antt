-- What loading a CSV file answers and leaves: all its points at once, or the first refusal.
use Rattle.std.specs.Prelude.{ℕ, ◌+◌, ◌^◌, ◌==◌, not, if◌then◌else◌, nat_lt, List, [], ◌∷◌, ◌++◌, length, fold}
use Rattle.std.specs.Prelude.{slice_index_or, None, Some, Result, Ok, Err, codes, decimal, ℤ}
use Rattle.script_lang.specs.Reading.{greatest_leaf}
use Rattle.script_lang.specs.Replies.{text_line}
use Rattle.script_lang.specs.Requests.{Add}
use Rattle.index_model.specs.State.{State, new_index, given_of}
use Rattle.index_model.specs.Step.{step, left_by}
use Rattle.index_model.specs.Script.{Answer}
use Rattle.csv_load.specs.Loading.{points_of, records_of}
use Rattle.csv_load.specs.declared.CsvFault.{CsvFault}
use Rattle.csv_load.specs.declared.CsvFault.TheVariants as fault

-- ---- the documents

-- the state with a document of one point
abbrev pub with_document : State → List ℤ → State
with_document state point = left_by state (step state (Add (point ∷ [])))

-- where no index is there, one of so many dimensions is made first, with leaves as large as they may be
abbrev pub opened_state : (dims : ℕ) → State → State
opened_state dims None = Some (new_index dims (greatest_leaf dims))
opened_state dims (Some i) = Some i

-- one document after the other
abbrev pub with_documents : (dims : ℕ) → State → List (List ℤ) → State
with_documents dims state points = fold with_document (opened_state dims state) points

abbrev pub next_of : State → ℕ
next_of None = 0
next_of (Some i) = i.next

-- ---- the refusals

-- what is wrong with the file; a column is told by its name
abbrev pub csv_text : (names : List (List ℕ)) → CsvFault → List ℕ
csv_text names (fault.NoColumn column) = codes "no column " ++ slice_index_or names column []
csv_text names (fault.Length row) = codes "record " ++ decimal row ++ codes " has another length"
csv_text names (fault.Value row column) =
    codes "record " ++ decimal row ++ codes " column " ++ slice_index_or names column []
    ++ codes " is not a whole number"
-- no file has this fault
csv_text names fault.Memory = []

-- the columns are the dimensions of the index that is there
abbrev pub dims_text : (dims : ℕ) → List ℕ
dims_text dims = codes "columns do not match dims " ++ decimal dims

abbrev pub full_text : List ℕ
full_text = codes "full"

-- a refusal is one line, and leaves the state
abbrev pub refusal : State → List ℕ → Answer
refusal state cause = record { state = state; text = text_line cause; refused = 1 }

-- ---- the whole

-- how many documents came, and the number of the next one
abbrev pub loaded_text : (count next : ℕ) → List ℕ
loaded_text count next = text_line (codes "loaded " ++ decimal count) ++ text_line (codes "next " ++ decimal next)

-- all points are added, where no more than 16,777,216 are given with them
abbrev pub points_answer : (dims : ℕ) → State → List (List ℤ) → Answer
points_answer dims state points =
    if nat_lt (2 ^ 24) (given_of state + length points) then refusal state full_text
    else record {
      state = with_documents dims state points;
      text = loaded_text (length points)
          (next_of state + length points);
      refused = 0;
    }

-- they have as many dimensions as the index that is there
abbrev pub columns_answer : (dims : ℕ) → State → List (List ℤ) → Answer
columns_answer dims None points = points_answer dims None points
columns_answer dims (Some i) points =
    if not (i.dims == dims) then refusal (Some i) (dims_text i.dims) else points_answer dims (Some i) points

abbrev pub loaded_by : List (List ℕ) → State → Result (List (List ℤ)) CsvFault → Answer
loaded_by names state (Ok points) = columns_answer (length names) state points
loaded_by names state (Err fault) = refusal state (csv_text names fault)

-- The answer to loading a file by columns of these names. The first refusal counts: a fault of the file, another number
-- of dimensions, too many points.
unfoldable pub load_answer : State → (input : List ℕ) → (names : List (List ℕ)) → Answer
load_answer state input names = loaded_by names state (points_of names (records_of input))
