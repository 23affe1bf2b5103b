use Rattle.std.proofs.Common.{◌≡◌, map, drop}
use Rattle.point_codec.specs.Seen.{coordinates_of}
use Rattle.serde_json.specs.View.{view}
use Rattle.polygon_query.specs.GeoJson.{positions}
use Rattle.polygon_query.proofs.Reading.{after}
use Rattle.polygon_query.proofs.geo_json.positions_of.Given as goal

-- the positions so far, before those that are left
abbrev pub invariant-loop-number : goal.invariant-loop-number
invariant-loop-number l = after (coordinates_of l.at.items) (positions l.ring l.number (map view (drop l.number l.list))) ≡ positions l.ring 0 (map view l.list)
