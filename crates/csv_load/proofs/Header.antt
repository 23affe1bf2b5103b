-- What the header makes of the records under it.
use Rattle.std.proofs.Common.{◌≡◌, ℕ, ◌≤◌, List, [], ◌∷◌, length, Result, Ok, Err, IfErr, ◌≢◌, refl, sym, ap, ◌∙◌, arith}
use Rattle.std.specs.Result.{IsErrAnd}
use Rattle.csv_load.specs.Loading.{each_ok, column_of, point_of, points_of}
use Rattle.csv_load.specs.declared.CsvFault.{CsvFault}
use Rattle.csv_load.specs.declared.CsvFault.TheVariants as fault

pub no_header : (names : List (List ℕ)) → 1 ≤ length names → points_of names [] ≡ Err (fault.NoColumn 0)
unfolding points_of each_ok
no_header [] h = absurd (omega arith)
no_header (name ∷ names) h = refl

pub header_fault : (names : List (List ℕ)) (records rows : List (List (List ℕ))) (header : List (List ℕ)) (e : CsvFault) → records ≡ header ∷ rows
    → each_ok (column_of header) 0 names ≡ Err e → points_of names records ≡ Err e
unfolding points_of
header_fault names records rows header e first h = rw (first, h) refl

pub header_columns : (names : List (List ℕ)) (records rows : List (List (List ℕ))) (header : List (List ℕ)) (columns : List ℕ) → records ≡ header ∷ rows
    → each_ok (column_of header) 0 names ≡ Ok columns → points_of names records ≡ each_ok (point_of (length header) columns) 1 rows
unfolding points_of
header_columns names records rows header columns first h = rw (first, h) refl

-- the same where the header's width was taken
pub rows_whole : (names : List (List ℕ)) (records rows : List (List (List ℕ))) (header : List (List ℕ)) (columns : List ℕ) (width : ℕ)
    → records ≡ header ∷ rows → width ≡ length header
    → each_ok (column_of header) 0 names ≡ Ok columns → points_of names records ≡ each_ok (point_of width columns) 1 rows
rows_whole names records rows header columns width first wide h =
    header_columns names records rows header columns first h ∙ ap (λ (w : ℕ). each_ok (point_of w columns) 1 rows) (sym wide)

-- a fault that is handed on
pub handed_on : {T S : Type 0} (result : Result T CsvFault) (all : Result S CsvFault) (e : CsvFault) → IsErrAnd result (λ x. x ≡ e) → all ≡ Err e
    → IfErr result (λ x. x ≢ fault.Memory → all ≡ Err x)
handed_on (Ok x) all e h a = tt
handed_on (Err x) all e h a = λ other. rw h a
