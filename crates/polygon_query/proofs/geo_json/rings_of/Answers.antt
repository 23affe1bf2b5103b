use Rattle.std.proofs.Common.{◌≡◌, ◌+◌, length, map, drop, Ok, arith}
use Rattle.serde_json.specs.View.{view}
use Rattle.polygon_query.specs.GeoJson.{elements, ring_of}
use Rattle.std.proofs.lemmas.List.{length_push}
use Rattle.polygon_query.proofs.Arrays.{view_dropped}
use Rattle.polygon_query.proofs.Reading.{AreRead-more}
use Rattle.polygon_query.proofs.geo_json.rings_of.Goals as goal

pub loop-number-preserved : goal.loop-number-preserved
loop-number-preserved c =
    let i = c.loop-number.number in
    let value = c.index-rings-number.result in
    let done = c.loop-number.list.items in
    let left = map view (drop (i + 1) c.args.rings.now) in
    let same : i ≡ length done = c.loop-number.invariant.number in
    let ring : ring_of (length done) (elements (view value)) ≡ Ok c.in_ok-ring_of.field-0 = rw (← same, ← c.elements.ensures) c.in_ok-ring_of.ensures.ring in
    let more = view_dropped c.args.rings.now i value c.loop-number-test.true c.index-rings-number.is in
    let read = rw more at c.loop-number.invariant.read in
    record {
      read = rw c.in_ok-push.ensures.items (AreRead-more (map view c.args.rings.now) done (view value) left c.in_ok-ring_of.field-0 ring read);
      number = rw c.in_ok-push.ensures.items (omega (arith, length_push done c.in_ok-ring_of.field-0));
    }
