-- What `export` writes of an index: CSV (RFC 4180) with a record for each point, from a scan of the documents.
use Rattle.std.specs.Prelude.{ℕ, ◌/◌, ◌%◌, ◌==◌, ◌&&◌, Bool, if◌then◌else◌, List, ◌++◌, None, Some, codes, decimal}
use Rattle.std.specs.Fmt.{signed_decimal}
use Rattle.std.specs.List.{flat_map, range_with_len}
use Rattle.point_codec.specs.Points.{Item}
use Rattle.documents.specs.Documents.{Document}
use Rattle.documents.specs.Entries.{entries_in}
use Rattle.script_lang.specs.Replies.{text_line}
use Rattle.index_model.specs.State.{State}
use Rattle.index_model.specs.Script.{Answer}

-- ---- the lines

-- the names of n columns, each behind a comma: a letter with the numbers from 1 on
abbrev pub columns_text : (letter : List ℕ) → (n : ℕ) → List ℕ
columns_text letter n = flat_map (λ i. codes "," ++ letter ++ decimal i) (range_with_len 1 n)

-- the columns are the coordinates of a point, or the lower ends of a range and then its higher ends
abbrev pub columns_of : (as_ranges : Bool) → (dims : ℕ) → List ℕ
columns_of as_ranges dims =
    if as_ranges then columns_text (codes "l") (dims / 2) ++ columns_text (codes "h") (dims / 2)
    else columns_text (codes "c") dims

unfoldable pub header_text : (as_ranges : Bool) → (dims : ℕ) → List ℕ
header_text as_ranges dims = text_line (codes "doc" ++ columns_of as_ranges dims)

-- a number and one of its points
unfoldable pub record_text : Item → List ℕ
record_text x = text_line (decimal x.doc ++ flat_map (λ n. codes "," ++ signed_decimal n) x.at)

-- the documents by number, and the points of each by coordinates
abbrev pub export_text : (as_ranges : Bool) → (dims : ℕ) → List Document → List ℕ
export_text as_ranges dims docs = header_text as_ranges dims ++ flat_map record_text (entries_in docs)

-- ---- the whole

-- a refusal is one line
abbrev pub refusal : State → List ℕ → Answer
refusal state cause = record { state = state; text = text_line cause; refused = 1 }

-- exporting leaves the state; ranges have as many lower as higher ends
abbrev pub export_answer : (as_ranges : Bool) → State → Answer
export_answer as_ranges None = refusal None (codes "no index")
export_answer as_ranges (Some i) =
    if as_ranges && i.dims % 2 == 1 then refusal (Some i) (codes "not ranges")
    else record { state = Some i; text = export_text as_ranges i.dims i.docs; refused = 0 }
