use Rattle.std.proofs.Common.{◌≡◌, true, set, sym, subst, rules}
use Rattle.std.specs.Int.{w32}
use Rattle.std.proofs.lemmas.Int.{to_z-of_z}
use Rattle.point_codec.specs.Points.{Region, in_box}
use Rattle.point_codec.specs.Seen.{region_of}
use Rattle.point_counts.proofs.RunCounts.{in_narrowed}
use Rattle.point_counts.proofs.runs.narrowed.Goals as goal

pub returns-in-Some : goal.returns-in-Some
returns-in-Some g c = λ p inside above below.
    subst (λ (r : Region). in_box r p ≡ true) (sym c.in-Some.ensures.cases)
    (in_narrowed (region_of c.args.cell.now) _ _ c.args.d c.args.low.now c.args.high.now
    (λ i. set (c.lo.ensures.value i) c.args.d (to_z-of_z w32 c.args.low.now (search rules) i))
    (λ i. set (c.hi.ensures.value i) c.args.d (to_z-of_z w32 c.args.high.now (search rules) i)) p inside above below)
