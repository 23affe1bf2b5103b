-- A reader of CSV in the middle of a file: what it has yet to give.
use Rattle.std.specs.Prelude.{◌≡◌, ℕ, ◌+◌, ◌<◌, false, List, [], ◌∷◌, length, Some, unwrap_or}
use Rattle.csv.specs.Machine.{ends_at_end}
use Rattle.csv.specs.Reading.{Ready, reader_config, reader_trim, reader_state, source_of, records_from, default_config}
use Rattle.csv.specs.declared.reader.Reader.{Reader}
use Rattle.csv.specs.declared.reader.Trim.TheVariants as trim
use denote.Ref.{Bor}

-- the bytes that a reader over a slice has left
abbrev pub bytes_left : Reader (Bor (List ℕ)) → List ℕ
bytes_left reader = unwrap_or (source_of (λ s. Some s.now) reader) []

-- the records that a reader over a slice has to give of the bytes that are left
abbrev pub records_left : Reader (Bor (List ℕ)) → List (List (List ℕ))
records_left reader =
    records_from default_config (length (bytes_left reader) + 1) (reader_state reader) (bytes_left reader)

-- a reader with the defaults, between two records
pub record IsReading (reader : Reader (Bor (List ℕ))) : Type 0 where
  pub plain : reader_config reader ≡ default_config
  pub untrimmed : reader_trim reader ≡ trim.None
  pub ready : Ready reader
  pub known : source_of (λ s. Some s.now) reader ≡ Some (bytes_left reader)
  pub between : ends_at_end (reader_state reader) ≡ false

-- the reader has given a record with these fields, and goes on behind it
pub record GaveRecord (old new : Reader (Bor (List ℕ))) (fields : List (List ℕ)) : Type 0 where
  pub reading : IsReading new
  pub shorter : length (bytes_left new) < length (bytes_left old)
  pub first : records_left old ≡ fields ∷ records_left new
