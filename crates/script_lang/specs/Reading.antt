-- How a line of a script is read. Its faults come in one order, whichever command it is: too long, not UTF-8, no index,
-- an unknown command, a bad name, a polygon on other than two dimensions, the wrong number of words, a word that is no
-- number, and then the values: dimensions, leaf size, k, polygon.
use Rattle.std.specs.Prelude.{ℕ, zero, suc, ◌+◌, ◌*◌, ◌/◌, ◌%◌, ◌==◌, ◌&&◌, not, Bool, nat_lt, nat_le, if◌then◌else◌}
use Rattle.std.specs.Prelude.{List, [], ◌∷◌, length, take, drop, slice_index, Option, None, Some, Result, Ok, Err}
use Rattle.std.specs.Prelude.{ok_or, ℤ, codes}
use Rattle.std.specs.Str.{is_utf8, bytes_eq}
use Rattle.std.specs.Str.Lines.{strip_carriage_return}
use Rattle.number_text.specs.Number.{number, coordinate}
use Rattle.point_codec.specs.Points.{ordered_points}
use Rattle.point_codec.specs.Names.{is_name}
use Rattle.polygon_query.specs.GeoJson.{polygon_of}
use Rattle.polygon_query.specs.declared.geo_json.GeoFault.{GeoFault}
use Rattle.script_lang.specs.Lines.{words_of, after_word}
use Rattle.script_lang.specs.Requests.{Viewed, Request}
use Rattle.script_lang.specs.Requests as asks
use Rattle.script_lang.specs.declared.faults.LineFault.{LineFault}
use Rattle.script_lang.specs.declared.faults.LineFault.TheVariants as fault

-- what a line says: a request, or the first of its faults
pub data Reading : Type 0 where
  Says : (request : Request) → Reading
  Fails : (fault : LineFault) → Reading

-- the greatest leaf size of an index: as many points with their document's number, 4 bytes each, as fit into 4,000
-- bytes
abbrev pub greatest_leaf : ℕ → ℕ
greatest_leaf dims = 4000 / (4 + 4 * dims)

abbrev pub is_from_to : ℕ → ℕ → ℕ → Bool
is_from_to low high n = nat_le low n && nat_le n high

-- what is read from a part of a line, or that part's fault
abbrev pub on_success : {X : Type 0} → Result X LineFault → (X → Reading) → Reading
on_success (Ok x) next = next x
on_success (Err f) next = Fails f

-- a word's value. The word has this place in its line, counted from 1
abbrev pub value_of : {X : Type 0} → (List ℕ → Option X) → ℕ → List ℕ → Result X LineFault
value_of value place word = ok_or (value word) (fault.Number place)

abbrev pub onto_values : {X : Type 0} → Result X LineFault → Result (List X) LineFault → Result (List X) LineFault
onto_values (Err f) others = Err f
onto_values (Ok x) (Err f) = Err f
onto_values (Ok x) (Ok xs) = Ok (x ∷ xs)

-- the values of words that stand from this place on, or the fault of the first that has none
abbrev pub values_of : {X : Type 0} → (List ℕ → Option X) → ℕ → List (List ℕ) → Result (List X) LineFault
values_of value place [] = Ok []
values_of value place (w ∷ ws) = onto_values (value_of value place w) (values_of value (place + 1) ws)

-- a list as so many pieces of this length
abbrev pub pieces : ℕ → ℕ → List ℤ → List (List ℤ)
pieces zero size xs = []
pieces (suc n) size xs = take size xs ∷ pieces n size (drop size xs)

-- so many points: the coordinates of each stand before those of the next
abbrev pub points_of : ℕ → ℕ → Result (List ℤ) LineFault → Result (List (List ℤ)) LineFault
points_of count dims (Ok cs) = Ok (pieces count dims cs)
points_of count dims (Err f) = Err f

-- two points: all coordinates of the first stand before those of the second
abbrev pub corners_of : ℕ → Result (List ℤ) LineFault → Result (List ℤ × List ℤ) LineFault
corners_of dims (Ok cs) = Ok (take dims cs, drop dims cs)
corners_of dims (Err f) = Err f

-- `LO HI`, the ends of a box, from this place on
unfoldable pub box_of : ℕ → ℕ → List (List ℕ) → Result (List ℤ × List ℤ) LineFault
box_of dims place words =
    if length words == 2 * dims then corners_of dims (values_of coordinate place words) else Err fault.Words

-- what a query looks at, and the words behind that, with the place of their first
pub record Query : Type 0 where
  pub view : Viewed
  pub place : ℕ
  pub words : List (List ℕ)

-- `@NAME`, or the documents live now where no such word stands behind the command
unfoldable pub query_of : List (List ℕ) → Result Query LineFault
query_of [] = Ok (record { view = None; place = 2; words = [] })
query_of (w ∷ ws) =
    if slice_index w 0 == 64
    then (if is_name (drop 1 w) then Ok
    (record { view = Some (drop 1 w); place = 3; words = ws }) else Err fault.BadName)
    else Ok (record { view = None; place = 2; words = w ∷ ws })

-- `NAME`, and no word behind it
unfoldable pub name_of : List (List ℕ) → Result (List ℕ) LineFault
name_of [] = Err fault.Words
name_of (w ∷ ws) = if is_name w then (if length ws == 0 then Ok w else Err fault.Words) else Err fault.BadName

-- the request of a line that has no words left, and a fault where it has some
abbrev pub word_alone : List (List ℕ) → Request → Reading
word_alone [] request = Says request
word_alone (w ∷ ws) request = Fails fault.Words

abbrev pub create_reading : ℕ → ℕ → Reading
create_reading dims leaf_size =
    if not (is_from_to 1 8 dims) then Fails fault.Dims
    else if not (is_from_to 2 (greatest_leaf dims) leaf_size) then Fails fault.LeafSize
    else Says (asks.Create dims leaf_size)

-- `create DIMS` or `create DIMS leaf SIZE`
unfoldable pub read_create : List (List ℕ) → Reading
read_create [] = Fails fault.Words
read_create (d ∷ []) = on_success (value_of number 2 d) (λ dims. create_reading dims (greatest_leaf dims))
read_create (d ∷ word ∷ []) = Fails fault.Words
read_create (d ∷ word ∷ s ∷ []) =
    if bytes_eq word (codes "leaf")
    then on_success (value_of number 2 d)
    (λ dims. on_success (value_of number 4 s) (λ leaf_size. create_reading dims leaf_size))
    else Fails fault.Words
read_create (d ∷ word ∷ s ∷ w ∷ ws) = Fails fault.Words

-- the coordinates of 1 to 16 points, point after point, from this place on
unfoldable pub document_of : ℕ → ℕ → List (List ℕ) → Result (List (List ℤ)) LineFault
document_of dims place words =
    if length words % dims == 0 && is_from_to 1 16 (length words / dims)
    then points_of (length words / dims) dims (values_of coordinate place words)
    else Err fault.Words

-- `add` with the points of a document
unfoldable pub read_add : ℕ → List (List ℕ) → Reading
read_add dims words = on_success (document_of dims 2 words) (λ points. Says (asks.Add (ordered_points points)))

-- `delete NUMBER` or `delete box LO HI`: the word `box` is never a number
unfoldable pub read_delete : ℕ → List (List ℕ) → Reading
read_delete dims [] = Fails fault.Words
read_delete dims (w ∷ ws) =
    if bytes_eq w (codes "box") then on_success (box_of dims 3 ws) (λ box. Says (asks.DeleteBox box.0 box.1))
    else if length ws == 0 then on_success (value_of number 2 w) (λ doc. Says (asks.Delete doc))
    else Fails fault.Words

-- what stands behind `box`: `[@NAME] LO HI`
unfoldable pub read_box : ℕ → List (List ℕ) → Reading
read_box dims words =
    on_success (query_of words)
    (λ query. on_success (box_of dims query.place query.words) (λ box. Says (asks.InBox query.view box.0 box.1)))

-- a value, and the values behind it
abbrev pub with_values : Result ℕ LineFault → Result (List ℤ) LineFault → Result (ℕ × List ℤ) LineFault
with_values (Err f) others = Err f
with_values (Ok x) (Err f) = Err f
with_values (Ok x) (Ok xs) = Ok (x, xs)

-- `K C1 .. CD`, from this place on
unfoldable pub sought_of : ℕ → ℕ → List (List ℕ) → Result (ℕ × List ℤ) LineFault
sought_of dims place [] = Err fault.Words
sought_of dims place (w ∷ ws) =
    if length ws == dims then with_values (value_of number place w) (values_of coordinate (place + 1) ws)
    else Err fault.Words

-- `nearest [@NAME] K C1 .. CD`
unfoldable pub read_nearest : ℕ → List (List ℕ) → Reading
read_nearest dims words =
    on_success (query_of words) (λ query. on_success (sought_of dims query.place query.words) (λ sought.
    if is_from_to 1 10000 sought.0 then Says (asks.Nearest query.view sought.0 sought.1) else Fails fault.BadK))

-- what stands behind what a query looks at
abbrev pub behind_view : Viewed → List ℕ → List ℕ
behind_view None text = text
behind_view (Some name) text = after_word text

abbrev pub polygon_fault : {X : Type 0} → Result X GeoFault → Result X LineFault
polygon_fault (Ok x) = Ok x
polygon_fault (Err f) = Err (fault.Geo f)

-- the rings of a text that has a word
abbrev pub rings_of : List (List ℕ) → List ℕ → Result (List (List (List ℤ))) LineFault
rings_of [] text = Err fault.Words
rings_of (w ∷ ws) text = polygon_fault (polygon_of text)

-- `polygon [@NAME] JSON`, by its words and by what stands behind `polygon`: the JSON is the rest of the line
unfoldable pub read_polygon : ℕ → List (List ℕ) → List ℕ → Reading
read_polygon dims words text =
    on_success (query_of words) (λ query.
    if dims == 2
    then on_success (rings_of query.words (behind_view query.view text))
    (λ rings. Says (asks.InPolygon query.view rings))
    else Fails fault.NotTwo)

-- `merge`, `merge begin` with any positions, or `merge end`
unfoldable pub read_merge : List (List ℕ) → Reading
read_merge [] = Says asks.Merge
read_merge (w ∷ ws) =
    if bytes_eq w (codes "begin") then on_success (values_of number 3 ws)
    (λ positions. Says (asks.MergeBegin positions))
    else if bytes_eq w (codes "end") then word_alone ws asks.MergeEnd
    else Fails fault.Words

-- a line on an index of so many dimensions, by its first word, the other words, and what stands behind the first
unfoldable pub read_command : ℕ → List ℕ → List (List ℕ) → List ℕ → Reading
read_command dims verb words rest =
    if bytes_eq verb (codes "create") then read_create words
    else if bytes_eq verb (codes "add") then read_add dims words
    else if bytes_eq verb (codes "delete") then read_delete dims words
    else if bytes_eq verb (codes "box") then read_box dims words
    else if bytes_eq verb (codes "polygon") then read_polygon dims words rest
    else if bytes_eq verb (codes "nearest") then read_nearest dims words
    else if bytes_eq verb (codes "flush") then word_alone words asks.Flush
    else if bytes_eq verb (codes "merge") then read_merge words
    else if bytes_eq verb (codes "snapshot") then on_success (name_of words) (λ name. Says (asks.Snapshot name))
    else if bytes_eq verb (codes "release") then on_success (name_of words) (λ name. Says (asks.Release name))
    else if bytes_eq verb (codes "commit") then word_alone words asks.Commit
    else if bytes_eq verb (codes "reopen") then word_alone words asks.Reopen
    else Fails fault.Unknown

-- where no index is there (None), only `create` can be asked
abbrev pub read_verb : Option ℕ → List ℕ → List (List ℕ) → List ℕ → Reading
read_verb None verb words rest = if bytes_eq verb (codes "create") then read_create words else Fails fault.NoIndex
read_verb (Some dims) verb words rest = read_command dims verb words rest

-- a line without words asks nothing, nor does one whose first word begins with '#'
abbrev pub read_words : Option ℕ → List (List ℕ) → List ℕ → Reading
read_words dims [] text = Says asks.Blank
read_words dims (verb ∷ words) text =
    if slice_index verb 0 == 35 then Says asks.Blank else read_verb dims verb words (after_word text)

-- a line's text: one byte 13 at its end is no part of it
unfoldable pub text_of : List ℕ → Result (List ℕ) LineFault
text_of line =
    let text = strip_carriage_return line in
    if nat_lt 4194304 (length text) then Err fault.TooLong
    else if not (is_utf8 text) then Err fault.NotUtf8
    else Ok text

-- a line of a script, read where an index of so many dimensions is there, or none
unfoldable pub read : Option ℕ → List ℕ → Reading
read dims line = on_success (text_of line) (λ text. read_words dims (words_of text) text)
