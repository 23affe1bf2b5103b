use Rattle.std.proofs.Common.{◌≡◌, ◌∙◌, sym}
use Rattle.std.specs.declared.cmp.Ordering.TheVariants.{Less}
use Rattle.std.proofs.lemmas.List.Elements.{All-more}
use Rattle.nearest_query.specs.Best.{near_cmp}
use Rattle.nearest_query.proofs.AmongWays.{less_from_lt}
use Rattle.nearest_query.proofs.few.rank.Goals as goal

pub loop-i-preserved : goal.loop-i-preserved
loop-i-preserved c =
    All-more (λ a. near_cmp a c.args.near.now ≡ Less) c.args.nears.now c.loop-i.i (record { dist2 = 0; doc = 0 }) c.loop-i-test.true c.loop-i.invariant
    (sym c.cmp.ensures ∙ less_from_lt c.cmp.result (sym c.is_lt.ensures ∙ c.if-not-is_lt.false))
