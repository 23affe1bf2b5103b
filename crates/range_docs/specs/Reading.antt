-- How a line of a script of ranges is read. A range of R dimensions is kept as a point of 2 R, so an index of ranges
-- has an even number of dimensions: on any other each line but a blank one has one fault, before all else. Further
-- faults come in the order of a script of points, and a lower end above its upper end behind a word that is no number.
use Rattle.std.specs.Prelude.{ℕ, ◌*◌, ◌/◌, ◌%◌, ◌==◌, if◌then◌else◌, List, [], ◌∷◌, slice_index, Option, None, Some}
use Rattle.std.specs.Prelude.{Result, Ok, Err, codes}
use Rattle.std.specs.List.{list_all}
use Rattle.std.specs.Str.{bytes_eq}
use Rattle.number_text.specs.Number.{number}
use Rattle.point_codec.specs.Points.{Region}
use Rattle.script_lang.specs.Lines.{words_of}
use Rattle.script_lang.specs.Requests.{Viewed, Request}
use Rattle.script_lang.specs.Requests as asks
use Rattle.script_lang.specs.Reading.{Reading, Says, Fails, on_success, value_of, create_reading, greatest_leaf}
use Rattle.script_lang.specs.Reading.{query_of}
use Rattle.script_lang.specs.Reading.{box_of}
use Rattle.script_lang.specs.Reading.{name_of, word_alone, read_add, read_merge, text_of, read}
use Rattle.script_lang.specs.declared.faults.LineFault.{LineFault}
use Rattle.script_lang.specs.declared.faults.LineFault.TheVariants as line
use Rattle.range_docs.specs.Ranges.{range_of, is_range}
use Rattle.range_docs.specs.declared.ranges.Question.{Question}
use Rattle.range_docs.specs.declared.ranges.Question.TheVariants.{Intersects, Within, Contains}
use Rattle.range_docs.specs.declared.faults.RangeFault.{RangeFault}
use Rattle.range_docs.specs.declared.faults.RangeFault.TheVariants as fault

-- what a line of a script of ranges asks
pub data RangeRequest : Type 0 where
  -- what a line of a script of points asks: it names no range, or adds a document of points that are ranges
  Asks : (request : Request) → RangeRequest
  -- which documents have a range that is an answer on this one
  Finds : (question : Question) (view : Viewed) (query : Region) → RangeRequest

-- what a line says: a request, or the first of its faults
abbrev pub RangeReading : Type 0
RangeReading = Result RangeRequest RangeFault

-- what is read as in a script of points
abbrev pub as_points : Reading → RangeReading
as_points (Says request) = Ok (Asks request)
as_points (Fails f) = Err (fault.Line f)

-- what is read from a part of a line, or that part's fault
abbrev pub from_part : {X : Type 0} → Result X LineFault → (X → RangeReading) → RangeReading
from_part (Ok x) next = next x
from_part (Err f) next = Err (fault.Line f)

-- `create R` or `create R leaf SIZE`, for ranges of R dimensions
unfoldable pub read_create_ranges : List (List ℕ) → Reading
read_create_ranges [] = Fails line.Words
read_create_ranges (w ∷ []) = on_success (value_of number 2 w) (λ r. create_reading (2 * r) (greatest_leaf (2 * r)))
read_create_ranges (w ∷ word ∷ []) = Fails line.Words
read_create_ranges (w ∷ word ∷ s ∷ []) =
    if bytes_eq word (codes "leaf")
    then on_success (value_of number 2 w)
    (λ r. on_success (value_of number 4 s) (λ leaf_size. create_reading (2 * r) leaf_size))
    else Fails line.Words
read_create_ranges (w ∷ word ∷ s ∷ v ∷ ws) = Fails line.Words

-- the points of a document, if each is a range of r dimensions
abbrev pub if_ranges : ℕ → Reading → RangeReading
if_ranges r (Says (asks.Add points)) =
    if list_all (λ p. is_range (range_of r p)) points then Ok (Asks (asks.Add points)) else Err fault.NotRange
if_ranges r reading = as_points reading

-- `delete NUMBER`: no line deletes what is in a box, so the word `box` is one too many
unfoldable pub read_delete_number : List (List ℕ) → Reading
read_delete_number [] = Fails line.Words
read_delete_number (w ∷ []) =
    if bytes_eq w (codes "box") then Fails line.Words else on_success (value_of number 2 w)
    (λ doc. Says (asks.Delete doc))
read_delete_number (w ∷ v ∷ ws) = Fails line.Words

-- `[@NAME] LO HI`, on ranges of r dimensions
unfoldable pub read_question : Question → ℕ → List (List ℕ) → RangeReading
read_question question r words =
    from_part (query_of words) (λ query. from_part (box_of r query.place query.words) (λ ends.
    let region : Region = record { lo = ends.0; hi = ends.1 } in
    if is_range region then Ok (Finds question query.view region) else Err fault.NotRange))

-- a line that names no range
unfoldable pub read_without_ranges : List ℕ → List (List ℕ) → Reading
read_without_ranges verb words =
    if bytes_eq verb (codes "create") then read_create_ranges words
    else if bytes_eq verb (codes "delete") then read_delete_number words
    else if bytes_eq verb (codes "flush") then word_alone words asks.Flush
    else if bytes_eq verb (codes "merge") then read_merge words
    else if bytes_eq verb (codes "snapshot") then on_success (name_of words) (λ name. Says (asks.Snapshot name))
    else if bytes_eq verb (codes "release") then on_success (name_of words) (λ name. Says (asks.Release name))
    else if bytes_eq verb (codes "commit") then word_alone words asks.Commit
    else if bytes_eq verb (codes "reopen") then word_alone words asks.Reopen
    else Fails line.Unknown

-- a line on an index of so many dimensions, an even number, by its first word and the others
unfoldable pub read_range_command : ℕ → List ℕ → List (List ℕ) → RangeReading
read_range_command dims verb words =
    if bytes_eq verb (codes "add") then if_ranges (dims / 2) (read_add dims words)
    else if bytes_eq verb (codes "intersects") then read_question Intersects (dims / 2) words
    else if bytes_eq verb (codes "within") then read_question Within (dims / 2) words
    else if bytes_eq verb (codes "contains") then read_question Contains (dims / 2) words
    else as_points (read_without_ranges verb words)

-- where no index is there (None), only `create` can be asked
abbrev pub read_range_verb : Option ℕ → List ℕ → List (List ℕ) → RangeReading
read_range_verb None verb words =
    if bytes_eq verb (codes "create") then as_points (read_create_ranges words) else Err (fault.Line line.NoIndex)
read_range_verb (Some dims) verb words = read_range_command dims verb words

-- a line without words asks nothing, nor does one whose first word begins with '#'
abbrev pub read_range_words : Option ℕ → List (List ℕ) → RangeReading
read_range_words dims [] = Ok (Asks asks.Blank)
read_range_words dims (verb ∷ words) =
    if slice_index verb 0 == 35 then Ok (Asks asks.Blank) else read_range_verb dims verb words

abbrev pub read_range_text : Option ℕ → List ℕ → RangeReading
read_range_text dims line = from_part (text_of line) (λ text. read_range_words dims (words_of text))

-- what is read where no point is a range: a line asks nothing, as in a script of points, or is refused
abbrev pub if_blank : Reading → RangeReading
if_blank (Says asks.Blank) = Ok (Asks asks.Blank)
if_blank reading = Err fault.NotRanges

-- a line of a script of ranges, read where an index of so many dimensions is there, or none
unfoldable pub range_read : Option ℕ → List ℕ → RangeReading
range_read None line = read_range_text None line
range_read (Some dims) line = if dims % 2 == 0 then read_range_text (Some dims) line else if_blank (read None line)
