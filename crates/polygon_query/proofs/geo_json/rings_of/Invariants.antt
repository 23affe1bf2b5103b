use Rattle.std.proofs.Common.{◌≡◌, length, map, drop}
use Rattle.serde_json.specs.View.{view}
use Rattle.polygon_query.proofs.Reading.{AreRead}
use Rattle.polygon_query.proofs.geo_json.rings_of.Given as goal

abbrev pub invariant-loop-number : goal.invariant-loop-number
invariant-loop-number l = record {
  read : AreRead (map view l.rings) l.list.items (map view (drop l.number l.rings));
  number : l.number ≡ length l.list.items;
}
