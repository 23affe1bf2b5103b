-- Why a polygon was not read, as the fault of its line.
use Rattle.polygon_query.specs.declared.geo_json.GeoRefused.{GeoRefused}
use Rattle.polygon_query.specs.declared.geo_json.GeoRefused.TheVariants as geo
use Rattle.script_lang.specs.declared.faults.LineFault.{LineFault}
use Rattle.script_lang.specs.declared.faults.LineFault.TheVariants as fault

abbrev pub fault_of : GeoRefused → LineFault
fault_of (geo.Fault f) = fault.Geo f
fault_of geo.Memory = fault.Memory
