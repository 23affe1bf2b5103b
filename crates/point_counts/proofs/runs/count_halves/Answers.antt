use Rattle.std.proofs.Common.{◌∙◌, ◌+◌, ℕ, List, ℤ, pos, false, get_or, int_le, ap, subst, arith, rules, w32}
use Rattle.std.proofs.lemmas.Int.{to_z-of_z}
use Rattle.point_codec.specs.Seen.{region_of}
use Rattle.point_counts.specs.Tables.{AddsCounts, settled_at}
use Rattle.point_counts.proofs.RunCounts.{from_low, to_high, behind_told, run_halved}
use Rattle.point_counts.proofs.runs.count_halves.Goals as goal

pub returns-then-not-are_settled : goal.returns-then-not-are_settled
returns-then-not-are_settled g c = λ live inside alive. c.count_rest.ensures live alive

pub returns : goal.returns
returns g c = λ live inside alive.
    let d = c.args.d in
    let run = region_of c.args.run.now in
    let cut = c.args.cut.now in
    let one = c.lie_of-front_lie.result in
    let other = c.lie_of-back_lie.result in
    let both = c.are_settled.ensures c.if-not-are_settled.false in
    run_halved (g.S.Sorting.bounds c.args.sorting.now) (g.S.Sorting.place c.args.sorting.now)
    (g.S.Sorting.parts c.args.sorting.now) live run (region_of c.narrowed-front.result)
    (region_of c.narrowed-back.result) d cut c.lie_of-front_lie.result c.lie_of-back_lie.result
    c.lie_of-front_lie.ensures both.0 c.lie_of-back_lie.ensures both.1
    (λ p here below. c.narrowed-front.ensures p here
    (ap (λ (z : ℤ). int_le z (get_or p d (pos 0))) (to_z-of_z w32 (get_or c.lo.result.now.c d (pos 0)) (search rules))
    ∙ ap (λ (l : List ℤ). int_le (get_or l d (pos 0)) (get_or p d (pos 0))) c.lo.ensures.value ∙ from_low run d p here) below)
    (λ p here above. c.narrowed-back.ensures p here (behind_told (get_or p d (pos 0)) cut (search rules) c.requires.cut above)
    (ap (λ (z : ℤ). int_le (get_or p d (pos 0)) z) (to_z-of_z w32 (get_or c.hi.result.now.c d (pos 0)) (search rules))
    ∙ ap (λ (h : List ℤ). int_le (get_or p d (pos 0)) (get_or h d (pos 0))) c.hi.ensures.value ∙ to_high run d p here))
    c.args.leaf.now c.args.i c.args.next c.count_to-below.result c.args.table.now c.add_both.new.table
    (omega (arith, c.requires.order)) c.requires.within inside alive c.count_to-below.ensures.value
    (subst (λ (n : ℕ). AddsCounts (λ k. settled_at one c.count_to-below.result k + settled_at other n k) c.args.table.now
    c.add_both.new.table) c.from-2.ensures
    (subst (λ (n : ℕ). AddsCounts (λ k. settled_at one n k + settled_at other c.from-2.result k) c.args.table.now
    c.add_both.new.table) c.from.ensures c.add_both.ensures))
