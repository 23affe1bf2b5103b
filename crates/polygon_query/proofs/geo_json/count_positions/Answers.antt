use Rattle.std.proofs.Common.{◌≡◌, drop, [], sym, arith}
use Rattle.std.proofs.lemmas.List.{drop_all}
use Rattle.polygon_query.proofs.geo_json.count_positions.Goals as goal

pub returns : goal.returns
returns c =
    let done : drop c.loop-ring.ring-index c.args.rings.now ≡ [] = drop_all c.loop-ring.ring-index c.args.rings.now (omega arith) in
    let counted = rw done at c.loop-ring.invariant.counted in
    let arrays = rw done at c.loop-ring.invariant.arrays in
    (sym arrays, omega arith)
