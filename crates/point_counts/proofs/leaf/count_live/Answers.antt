use Rattle.std.proofs.Common.{◌≡◌, ◌∙◌, ℤ, true, sym, subst, take, drop, arith, rules}
use Rattle.std.specs.Prelude.{All, int_lt}
use Rattle.std.specs.Int.{w32}
use Rattle.std.proofs.lemmas.Int.{to_z-of_z}
use Rattle.point_codec.specs.Points.{Item, in_box}
use Rattle.leaf_codec.specs.Ascending.{coordinate}
use Rattle.bkd_reader.proofs.OutOfReach.{none_below, none_above, none_from}
use Rattle.point_counts.specs.Tables.{live_at}
use Rattle.point_counts.proofs.Counts.{adds_none, adds_as, none_placed, none_more}
use Rattle.point_counts.proofs.RunCounts.{raises_adds}
use Rattle.point_counts.proofs.leaf.count_live.Goals as goal

pub returns-then-end-from : goal.returns-then-end-from
returns-then-end-from g c = λ inside alive.
    let box = g.S.Sorting.bounds c.args.sorting.now in
    let place = g.S.Sorting.place c.args.sorting.now in
    let live = c.args.live.now in
    let leaf = c.args.leaf.now in
    let d = c.sorted_dimension-d.result in
    let low = c.reach-low.result.0 in
    let high = c.reach-low.result.1 in
    let from = c.between-from.result.0 in
    let end = c.between-from.result.1 in
    let reach = c.reach-low.ensures in
    let below = subst (λ (z : ℤ). All (λ (x : Item). int_lt (coordinate d x) z ≡ true) (take from leaf))
    (to_z-of_z w32 low (search rules)) c.between-from.ensures.below in
    let above = subst (λ (z : ℤ). All (λ (x : Item). int_lt z (coordinate d x) ≡ true) (drop end leaf))
    (to_z-of_z w32 high (search rules)) c.between-from.ensures.above in
    let front = none_below (in_box box) d low high (take from leaf) reach below in
    let back = none_above (in_box box) d low high (drop end leaf) reach above in
    adds_none (live_at box place live leaf) c.args.table.now
    (λ k. sym (none_more box place live leaf from
    (none_from (in_box box) leaf from end (omega (arith, c.if-end-from.true)) back) k)
    ∙ none_placed box place live (take from leaf) front k)

pub returns-then-clean : goal.returns-then-clean
returns-then-clean g c = λ inside alive.
    let box = g.S.Sorting.bounds c.args.sorting.now in
    let place = g.S.Sorting.place c.args.sorting.now in
    let live = c.args.live.now in
    let leaf = c.args.leaf.now in
    let d = c.sorted_dimension-d.result in
    let low = c.reach-low.result.0 in
    let high = c.reach-low.result.1 in
    let from = c.between-from.result.0 in
    let end = c.between-from.result.1 in
    let reach = c.reach-low.ensures in
    let below = subst (λ (z : ℤ). All (λ (x : Item). int_lt (coordinate d x) z ≡ true) (take from leaf))
    (to_z-of_z w32 low (search rules)) c.between-from.ensures.below in
    let above = subst (λ (z : ℤ). All (λ (x : Item). int_lt z (coordinate d x) ≡ true) (drop end leaf))
    (to_z-of_z w32 high (search rules)) c.between-from.ensures.above in
    let front = none_below (in_box box) d low high (take from leaf) reach below in
    let back = none_above (in_box box) d low high (drop end leaf) reach above in
    adds_as (live_at box place live (take end leaf)) (live_at box place live leaf) c.args.table.now c.count_runs.new.table
    (none_more box place live leaf end back)
    (raises_adds (live_at box place live (take from leaf)) (live_at box place live (take end leaf)) c.args.table.now
    c.count_runs.new.table (none_placed box place live (take from leaf) front)
    (c.count_runs.ensures live inside (alive c.if-clean.true)))

pub returns : goal.returns
returns g c = λ inside alive.
    let box = g.S.Sorting.bounds c.args.sorting.now in
    let place = g.S.Sorting.place c.args.sorting.now in
    let live = c.args.live.now in
    let leaf = c.args.leaf.now in
    let d = c.sorted_dimension-d.result in
    let low = c.reach-low.result.0 in
    let high = c.reach-low.result.1 in
    let from = c.between-from.result.0 in
    let end = c.between-from.result.1 in
    let reach = c.reach-low.ensures in
    let below = subst (λ (z : ℤ). All (λ (x : Item). int_lt (coordinate d x) z ≡ true) (take from leaf))
    (to_z-of_z w32 low (search rules)) c.between-from.ensures.below in
    let above = subst (λ (z : ℤ). All (λ (x : Item). int_lt z (coordinate d x) ≡ true) (drop end leaf))
    (to_z-of_z w32 high (search rules)) c.between-from.ensures.above in
    let front = none_below (in_box box) d low high (take from leaf) reach below in
    let back = none_above (in_box box) d low high (drop end leaf) reach above in
    adds_as (live_at box place live (take end leaf)) (live_at box place live leaf) c.args.table.now c.count_each.new.table
    (none_more box place live leaf end back)
    (raises_adds (live_at box place live (take from leaf)) (live_at box place live (take end leaf)) c.args.table.now
    c.count_each.new.table (none_placed box place live (take from leaf) front)
    c.count_each.ensures)
