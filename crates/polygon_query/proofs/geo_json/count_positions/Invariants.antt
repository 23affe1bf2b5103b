use Rattle.std.proofs.Common.{◌≡◌, ◌+◌, ◌-◌, ◌^◌, ◌≤◌, min, map, drop}
use Rattle.std.specs.List.{list_all}
use Rattle.serde_json.specs.View.{view}
use Rattle.polygon_query.specs.GeoJson.{is_array, count_positions}
use Rattle.polygon_query.proofs.geo_json.count_positions.Given as goal

-- the rings that are left decide
abbrev pub invariant-loop-ring : goal.invariant-loop-ring
invariant-loop-ring l = record {
  counted : min (l.positions + count_positions (map view (drop l.ring-index l.rings))) (2 ^ 64 - 1) ≡ min (count_positions (map view l.rings)) (2 ^ 64 - 1);
  small : l.positions ≤ 2 ^ 64 - 1;
  arrays : list_all is_array (map view (drop l.ring-index l.rings)) ≡ list_all is_array (map view l.rings);
}
