-- Polygons in JSON: the Polygon objects of RFC 7946 (3.1.6) whose positions are pairs of whole numbers. A text is
-- read by serde_json's own definition, by which the last of members with one name counts.
use Rattle.std.specs.Prelude.{ℕ, ◌+◌, ◌-◌, ◌^◌, ℤ, pos, negsuc, int_le, Bool, false, ◌&&◌, List, [], ◌∷◌, length}
use Rattle.std.specs.Prelude.{sum_by, slice_index_or, codes, nat_lt, if◌then◌else◌, Option, Some, None, unwrap_or}
use Rattle.std.specs.Prelude.{is_some, option_map, option_and_then, Result, Ok, Err}
use Rattle.std.specs.Option.{option_map_or, ok_or}
use Rattle.std.specs.List.{list_all}
use Rattle.std.specs.Ordering.{int_eq}
use Rattle.std.specs.Str.{bytes_eq}
use Rattle.std.specs.Cmp.Lexicographic.{pointwise}
use Rattle.serde_json.specs.Data.{Data, null, Items, no_items, item}
use Rattle.serde_json.specs.Read.{read}
use Rattle.serde_json.specs.Find.{get, as_array, as_str, as_number, as_i64}
use Rattle.polygon_query.specs.declared.geo_json.GeoFault.{GeoFault}
use Rattle.polygon_query.specs.declared.geo_json.GeoFault.TheVariants.{NotJson, NotPolygon, TooMany, NotWhole, TooFew}
use Rattle.polygon_query.specs.declared.geo_json.GeoFault.TheVariants.{NotClosed}

-- the value of a member, null where an object has none of that name
abbrev pub member_of : List ℕ → Data → Data
member_of name d = unwrap_or (get name d) null

abbrev pub list_of : Items → List Data
list_of no_items = []
list_of (item d ds) = d ∷ list_of ds

-- the elements of an array, none of every other value
abbrev pub elements : Data → List Data
elements d = option_map_or list_of (as_array d) []

abbrev pub is_array : Data → Bool
is_array d = is_some (as_array d)

-- the coordinates of a polygon, the array of its rings
abbrev pub coordinates : Data → List Data
coordinates d = elements (member_of (codes "coordinates") d)

-- an object of the type Polygon
abbrev pub names_polygon : Data → Bool
names_polygon d = option_map_or (λ name. bytes_eq name (codes "Polygon")) (as_str (member_of (codes "type") d)) false

abbrev in_32_bits : ℤ → Option ℤ
in_32_bits x = if int_le (negsuc (2 ^ 31 - 1)) x && int_le x (pos (2 ^ 31 - 1)) then Some x else None

-- a number of 32 bits that is written without a fraction or an exponent
abbrev pub coordinate : Data → Option ℤ
coordinate d = option_and_then in_32_bits (option_and_then as_i64 (as_number d))

abbrev pub pair : List Data → Option (List ℤ)
pair (x ∷ y ∷ []) = option_and_then (λ a. option_map (λ b. a ∷ b ∷ []) (coordinate y)) (coordinate x)
pair _ = None

-- a position is an array of two coordinates (RFC 7946, 3.1.1; this index has no altitudes)
abbrev pub position : Data → Option (List ℤ)
position d = pair (elements d)

-- what the first gives goes on, its fault stays
abbrev pub and_then : {A B : Type 0} → (A → Result B GeoFault) → Result A GeoFault → Result B GeoFault
and_then f (Ok x) = f x
and_then f (Err e) = Err e

-- the positions of a ring from that number on, or the first that is none
abbrev pub positions : ℕ → ℕ → List Data → Result (List (List ℤ)) GeoFault
positions ring number [] = Ok []
positions ring number (d ∷ ds) =
    and_then (λ p. and_then (λ ps. Ok (p ∷ ps)) (positions ring (number + 1) ds))
    (ok_or (position d) (NotWhole ring number))

-- the last position is the first again
abbrev pub is_closed : List (List ℤ) → Bool
is_closed ps = pointwise int_eq (slice_index_or ps 0 []) (slice_index_or ps (length ps - 1) [])

-- four or more positions, the last the first again (RFC 7946, 3.1.6)
abbrev pub linear : ℕ → List (List ℤ) → Result (List (List ℤ)) GeoFault
linear ring ps =
    if nat_lt (length ps) 4 then Err (TooFew ring) else (if is_closed ps then Ok ps else Err (NotClosed ring))

abbrev pub ring_of : ℕ → List Data → Result (List (List ℤ)) GeoFault
ring_of ring ds = and_then (linear ring) (positions ring 0 ds)

-- the rings from that number on, or the fault of the first that has one
abbrev pub rings_of : ℕ → List Data → Result (List (List (List ℤ))) GeoFault
rings_of ring [] = Ok []
rings_of ring (d ∷ ds) =
    and_then (λ r. and_then (λ rs. Ok (r ∷ rs)) (rings_of (ring + 1) ds)) (ring_of ring (elements d))

abbrev pub count_positions : List Data → ℕ
count_positions rings = sum_by (λ ring. length (elements ring)) rings

-- each of the coordinates is an array; there are at most 65,536 positions in all (a limit of this index); then ring by
-- ring
abbrev pub polygon_in : Data → Result (List (List (List ℤ))) GeoFault
polygon_in d =
    if names_polygon d && is_array (member_of (codes "coordinates") d) && list_all is_array (coordinates d)
    then (if nat_lt (2 ^ 16) (count_positions (coordinates d)) then Err TooMany else rings_of 0 (coordinates d))
    else Err NotPolygon

-- the rings of a text, or its fault
unfoldable pub polygon_of : List ℕ → Result (List (List (List ℤ))) GeoFault
polygon_of text = and_then polygon_in (ok_or (read text) NotJson)
