-- Why a text is refused: for the fault that was read, or for want of memory.
use Rattle.std.specs.Prelude.{◌≡◌, ⊤, Result, Err}
use Rattle.polygon_query.specs.declared.geo_json.GeoFault.{GeoFault}
use Rattle.polygon_query.specs.declared.geo_json.GeoRefused.{GeoRefused}
use Rattle.polygon_query.specs.declared.geo_json.GeoRefused.TheVariants.{Fault, Memory}

-- the fault is the one that was read; memory may be wanted anywhere
abbrev pub IsRefusal : {A : Type 0} → Result A GeoFault → GeoRefused → Type 0
IsRefusal told (Fault f) = told ≡ Err f
IsRefusal told Memory = ⊤
