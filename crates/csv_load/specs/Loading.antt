-- What a CSV file loads: the points in the columns that are named, or the first fault.
use Rattle.std.specs.Prelude.{ℕ, suc, ◌-◌, ◌==◌, ◌||◌, Bool, if◌then◌else◌, List, [], ◌∷◌, length, take, drop}
use Rattle.std.specs.Prelude.{slice_get, position, Result, Ok, Err, ok_or, option_and_then, ℤ}
use Rattle.std.specs.List.{prefix_len, suffix_len}
use Rattle.std.specs.Str.{bytes_eq}
use Rattle.csv.specs.Reading.{records, default_config, strip_bom}
use Rattle.number_text.specs.Number.{coordinate}
use Rattle.csv_load.specs.declared.CsvFault.{CsvFault}
use Rattle.csv_load.specs.declared.CsvFault.TheVariants as fault

-- the records of a file, the header first, each a list of fields: those of the `csv` crate, with its
-- default delimiter, quote and record end
unfoldable pub records_of : List ℕ → List (List (List ℕ))
records_of file = records default_config (strip_bom file)

-- a space or a tab
abbrev pub is_blank : ℕ → Bool
is_blank c = (c == 32) || (c == 9)

-- a field without the blanks at its end, and then without those at its start
abbrev pub up_to_last : List ℕ → List ℕ
up_to_last field = take (length field - suffix_len is_blank field) field

abbrev pub from_first : List ℕ → List ℕ
from_first field = drop (prefix_len is_blank field) field

unfoldable pub without_blanks : List ℕ → List ℕ
without_blanks field = from_first (up_to_last field)

abbrev pub and_then : {X Y : Type 0} → Result X CsvFault → (X → Result Y CsvFault) → Result Y CsvFault
and_then (Ok x) f = f x
and_then (Err e) f = Err e

-- what f makes of each element, or the first fault; the elements count from n
unfoldable pub each_ok : {X Y : Type 0} → (ℕ → X → Result Y CsvFault) → ℕ → List X → Result (List Y) CsvFault
each_ok f n [] = Ok []
each_ok f n (x ∷ xs) = and_then (f n x) (λ y. and_then (each_ok f (suc n) xs) (λ ys. Ok (y ∷ ys)))

-- the column with a name, the k-th of those asked for: the first field of the header that is equal to it
abbrev pub column_of : List (List ℕ) → ℕ → List ℕ → Result ℕ CsvFault
column_of header k name = ok_or (position (λ field. bytes_eq field name) header) (fault.NoColumn k)

-- the coordinate in a column, the k-th of those asked for, of a record
abbrev pub value_of : List (List ℕ) → ℕ → ℕ → ℕ → Result ℤ CsvFault
value_of fields row k column =
    ok_or (option_and_then (λ field. coordinate (without_blanks field)) (slice_get fields column)) (fault.Value row k)

-- the point of a record, which has as many fields as the header
abbrev pub point_of : ℕ → List ℕ → ℕ → List (List ℕ) → Result (List ℤ) CsvFault
point_of width columns row fields =
    if length fields == width then each_ok (value_of fields row) 0 columns else Err (fault.Length row)

-- the points of the records after a header; these count from 1
abbrev pub points_under : List (List ℕ) → List (List ℕ) → List (List (List ℕ)) → Result (List (List ℤ)) CsvFault
points_under header names rows =
    and_then (each_ok (column_of header) 0 names) (λ columns. each_ok (point_of (length header) columns) 1 rows)

-- the points of all records, or the first fault. Where there is no record the header has no field.
unfoldable pub points_of : List (List ℕ) → List (List (List ℕ)) → Result (List (List ℤ)) CsvFault
points_of names [] = points_under [] names []
points_of names (header ∷ rows) = points_under header names rows
