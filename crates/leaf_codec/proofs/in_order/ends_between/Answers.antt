use Rattle.std.proofs.Common.{◌<◌, ◌-◌, sym, arith, true≢false}
use Rattle.std.proofs.lemmas.Bool.{leb-true, le-leb}
use Rattle.leaf_codec.specs.Views.{raw_keys_of}
use Rattle.leaf_codec.proofs.OrderedKeys.{ends_all}
use Rattle.leaf_codec.proofs.in_order.ends_between.Goals as goal

pub returns-then-rank-low : goal.returns-then-rank-low
returns-then-rank-low g c = (
  λ no. absurd (true≢false (sym no)),
  λ all. absurd (omega (arith, c.if-rank-low.true, (all 0 (omega (arith, c.requires.some))).0, c.rank.ensures)),
)

pub returns : goal.returns
returns g c =
    let n = c.args.parts.now.count in
    let last : n - 1 < n = omega (arith, c.requires.some) in (
      λ yes. ends_all g.row.D n (raw_keys_of c.args.parts.now) c.args.e c.args.low c.args.high c.requires.some c.requires.rises
          (omega (arith, c.if-rank-low.false, c.rank.ensures)) (omega (arith, leb-true _ _ yes, c.rank-2.ensures)),
      λ all. le-leb _ _ (omega (arith, (all (n - 1) last).1, c.rank-2.ensures)),
    )
