use Rattle.std.proofs.Common.{◌≡◌, All, take}
use Rattle.std.specs.declared.cmp.Ordering.TheVariants.{Less}
use Rattle.nearest_query.specs.Best.{near_cmp}
use Rattle.nearest_query.proofs.few.rank.Given as goal

abbrev pub invariant-loop-i : goal.invariant-loop-i
invariant-loop-i l = All (λ a. near_cmp a l.near ≡ Less) (take l.i l.nears)
