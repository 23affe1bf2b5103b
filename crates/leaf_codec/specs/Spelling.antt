-- The bytes of a leaf, part by part in the order of the format (after Lucene's leaf blocks of points: shared
-- prefixes, one sorted dimension in runs, and the rest of each key). The spelling is a function of the items.
use Rattle.std.specs.Prelude.{ℕ, ◌+◌, ◌-◌, ◌*◌, ◌/◌, ◌%◌, min, max, Bool, if◌then◌else◌, List, [], ◌∷◌, ◌++◌, map}
use Rattle.std.specs.Prelude.{length, take, drop, replicate, Option, Some, None, nat_eq, nat_lt, ◌==◌}
use Rattle.std.specs.List.{flat_map, fold, range_with_len}
use Rattle.std.specs.Int.{w16, w32, to_be_bytes}
use lib.Pointwise.{pointwise}
use Rattle.point_codec.specs.Points.{Item}
use Rattle.byte_cursor.specs.Vint.{vint}
use Rattle.leaf_codec.specs.Dimensions.{key_of, key_byte, shared_prefix, sorted_dimension}

-- ---- the numbers

-- the last w of the four bytes of n, the greatest first
abbrev pub low_bytes : ℕ → ℕ → List ℕ
low_bytes w n = drop (4 - w) (to_be_bytes w32 n)

abbrev pub least : List ℕ → ℕ
least [] = 0
least (n ∷ ns) = fold min n ns

abbrev pub greatest : List ℕ → ℕ
greatest ns = fold max 0 ns

-- each number is the least one plus its place
unfoldable pub is_row : List ℕ → Bool
is_row ns = pointwise nat_eq ns (range_with_len (least ns) (length ns))

-- the least number of bytes that holds n, from 1 to 3
abbrev pub width : ℕ → ℕ
width n = if nat_lt n 256 then 1 else if nat_lt n 65536 then 2 else 3

-- form 0 says that the numbers are a row; form w that each number stands in w bytes, less the least
unfoldable pub form : List ℕ → ℕ
form ns = if is_row ns then 0 else width (greatest ns - least ns)

-- the form, the least number (of a row the first), and in the forms 1 to 3 each number less the least
unfoldable pub numbers : List ℕ → List ℕ
numbers ns = form ns ∷ vint (least ns) ++ flat_map (λ n. low_bytes (form ns) (n - least ns)) ns

-- ---- the shared prefixes

-- the bytes that all keys in d share
abbrev pub shared_bytes : ℕ → List Item → List ℕ
shared_bytes d [] = []
shared_bytes d (x ∷ items) = take (shared_prefix d (x ∷ items)) (key_of d x)

-- the length of each dimension's prefix, then the prefixes
unfoldable pub prefixes : ℕ → List Item → List ℕ
prefixes D items =
    map (λ d. shared_prefix d items) (range_with_len 0 D) ++ flat_map (λ d. shared_bytes d items) (range_with_len 0 D)

-- ---- the sorted bytes

-- one more of b in front of runs of equal bytes, each with its length
abbrev pub add_to_runs : ℕ → List (ℕ × ℕ) → List (ℕ × ℕ)
add_to_runs b [] = (b, 1) ∷ []
add_to_runs b (r ∷ rs) = if b == r.0 then (b, r.1 + 1) ∷ rs else (b, 1) ∷ r ∷ rs

-- the longest runs of equal bytes
abbrev pub runs : List ℕ → List (ℕ × ℕ)
runs [] = []
runs (b ∷ bs) = add_to_runs b (runs bs)

-- a run in pieces of 256 and a last one of 1 to 256
abbrev pub pieces_of_run : ℕ × ℕ → List (ℕ × ℕ)
pieces_of_run r = replicate ((r.1 - 1) / 256) (r.0, 256) ++ (r.0, (r.1 - 1) % 256 + 1) ∷ []

unfoldable pub pieces : List ℕ → List (ℕ × ℕ)
pieces bs = flat_map pieces_of_run (runs bs)

-- a piece as its byte and its length less 1
abbrev pub piece_bytes : ℕ × ℕ → List ℕ
piece_bytes p = p.0 ∷ (p.1 - 1) ∷ []

-- run form 0 and the bytes, or run form 1, the number of pieces and the pieces: these exactly where twice their number
-- is less than that of the bytes
unfoldable pub sorted_bytes : List ℕ → List ℕ
sorted_bytes bs = if nat_lt (2 * length (pieces bs)) (length bs)
    then 1 ∷ length (pieces bs) ∷ flat_map piece_bytes (pieces bs)
    else 0 ∷ bs

-- the sorted dimension, and the bytes behind its shared prefix; nothing where there is none
unfoldable pub sorted_part : Option ℕ → List Item → List ℕ
sorted_part None items = []
sorted_part (Some s) items = s ∷ sorted_bytes (map (key_byte s (shared_prefix s items)) items)

-- ---- the rests

-- how many bytes of the keys in d stand before the rests: the shared prefix, and of the sorted dimension one more
abbrev pub told_length : Option ℕ → ℕ → List Item → ℕ
told_length None d items = shared_prefix d items
told_length (Some s) d items = if d == s then shared_prefix d items + 1 else shared_prefix d items

-- what is left of the item's keys
abbrev pub rest : ℕ → List Item → Item → List ℕ
rest D items x = flat_map (λ d. drop (told_length (sorted_dimension D items) d items) (key_of d x)) (range_with_len 0 D)

unfoldable pub rests : ℕ → List Item → List ℕ
rests D items = flat_map (rest D items) items

-- ---- the whole

-- the one spelling of the items of a leaf of D dimensions
unfoldable pub spelling : ℕ → List Item → List ℕ
spelling D items =
    to_be_bytes w16 (length items) ++ numbers (map (λ x. x.doc) items) ++ prefixes D items ++ sorted_part
    (sorted_dimension D items) items ++ rests D items
