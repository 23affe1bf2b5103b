use Rattle.std.proofs.Common.{rules, ◌≡◌, ◌∙◌, length, map, take_all, sym, ap, arith, pos, length-set}
use Rattle.point_codec.specs.Keys.{key}
use Rattle.inner_pack.proofs.PackBytes.{keys_more}
use Rattle.inner_pack.proofs.index.keys_of.Goals as goal

pub loop-d-preserved : goal.loop-d-preserved
loop-d-preserved g c =
    let l = c.loop-d in
    let coordinates = c.coordinates-c.result.now in
    let long : length coordinates ≡ g.row.D = ap length c.coordinates-c.ensures.value ∙ c.coordinates-c.ensures.long in
    record {
      long = length-set l.keys l.d c.sortable.result ∙ l.invariant.long;
      filled = keys_more l.keys coordinates l.d c.sortable.result (pos 0) (omega (arith, l.invariant.long, c.loop-d-test.true))
          (omega (arith, long, c.loop-d-test.true)) (search rules)
          l.invariant.filled;
    }

pub returns : goal.returns
returns g c =
    let l = c.loop-d in
    let coordinates = c.coordinates-c.result.now in
    let long : length coordinates ≡ g.row.D = ap length c.coordinates-c.ensures.value ∙ c.coordinates-c.ensures.long in
    sym (take_all l.d l.keys (omega (arith, l.invariant.long, c.loop-d-test.false))) ∙ l.invariant.filled
    ∙ ap (map key) (take_all l.d coordinates (omega (arith, long, c.loop-d-test.false)) ∙ c.coordinates-c.ensures.value)
