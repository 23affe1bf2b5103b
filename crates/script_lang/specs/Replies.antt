-- The texts that answer the lines of a script. Each line of text ends with byte 10.
use Rattle.std.specs.Prelude.{ℕ, List, [], ◌++◌, length, codes, decimal, map}
use Rattle.std.specs.List.{flat_map}
use Rattle.point_codec.specs.declared.entries.Near.{Near}
use Rattle.polygon_query.specs.declared.geo_json.GeoFault.{GeoFault}
use Rattle.polygon_query.specs.declared.geo_json.GeoFault.TheVariants as geo
use Rattle.script_lang.specs.declared.faults.LineFault.{LineFault}
use Rattle.script_lang.specs.declared.faults.LineFault.TheVariants as fault
use Rattle.script_lang.specs.declared.faults.Refusal.{Refusal}
use Rattle.script_lang.specs.declared.faults.Refusal.TheVariants as why

abbrev pub text_line : List ℕ → List ℕ
text_line text = text ++ codes "\n"

unfoldable pub ok_text : List ℕ
ok_text = text_line (codes "ok")

unfoldable pub doc_text : ℕ → List ℕ
doc_text doc = text_line (codes "doc " ++ decimal doc)

unfoldable pub deleted_text : ℕ → List ℕ
deleted_text count = text_line (codes "deleted " ++ decimal count)

-- how many documents were found, and then each one's number
unfoldable pub hits_text : List ℕ → List ℕ
hits_text docs = text_line (codes "hits " ++ decimal (length docs)) ++ flat_map (λ doc. text_line (decimal doc)) docs

abbrev pub found_of : List Near → List (ℕ × ℕ)
found_of near = map (λ n. (n.doc, n.dist2)) near

abbrev pub found_text : ℕ × ℕ → List ℕ
found_text found = text_line (decimal found.0 ++ codes " " ++ decimal found.1)

-- how many documents were found, and then each one's number and its squared distance
unfoldable pub near_text : List (ℕ × ℕ) → List ℕ
near_text found =
    text_line (codes "near " ++ decimal (length found)) ++ flat_map found_text found

-- the answer to a line that is refused: the line's number, counted from 1, and why
abbrev pub refusal_text : ℕ → List ℕ → List ℕ
refusal_text line cause = text_line (codes "line " ++ decimal line ++ codes ": " ++ cause)

abbrev pub polygon_text : GeoFault → List ℕ
polygon_text geo.NotJson = codes "polygon is not json"
polygon_text geo.NotPolygon = codes "not a polygon"
polygon_text geo.TooMany = codes "polygon has too many positions"
polygon_text (geo.NotWhole ring position) =
    codes "polygon ring " ++ decimal ring ++ codes " position " ++ decimal position ++ codes " is not whole"
polygon_text (geo.TooFew ring) = codes "polygon ring " ++ decimal ring ++ codes " has too few positions"
polygon_text (geo.NotClosed ring) = codes "polygon ring " ++ decimal ring ++ codes " is not closed"

abbrev pub fault_text : LineFault → List ℕ
fault_text fault.TooLong = codes "too long"
fault_text fault.NotUtf8 = codes "not utf-8"
fault_text fault.NoIndex = codes "no index"
fault_text fault.Unknown = codes "unknown command"
fault_text fault.BadName = codes "bad name"
fault_text fault.NotTwo = codes "not two dimensions"
fault_text fault.Words = codes "wrong words"
fault_text (fault.Number word) = codes "bad number in word " ++ decimal word
fault_text fault.Dims = codes "dims"
fault_text fault.LeafSize = codes "leaf size"
fault_text fault.BadK = codes "bad k"
fault_text (fault.Geo f) = polygon_text f
-- no line answers this: want of memory ends a script
fault_text fault.Memory = []

unfoldable pub line_fault_text : ℕ → LineFault → List ℕ
line_fault_text line f = refusal_text line (fault_text f)

abbrev pub cause_text : Refusal → List ℕ
cause_text why.Exists = codes "index exists"
cause_text why.Full = codes "full"
cause_text why.Begun = codes "merge begun"
cause_text why.NotBegun = codes "no merge begun"
cause_text why.UnknownSnapshot = codes "unknown snapshot"
cause_text why.NameTaken = codes "name taken"
cause_text why.TooManySnapshots = codes "too many snapshots"
cause_text why.NotQuery = codes "not a query"

unfoldable pub refused_text : ℕ → Refusal → List ℕ
refused_text line w = refusal_text line (cause_text w)
