use Rattle.std.proofs.Common.{◌≡◌, ◌<◌, ◌-◌, ◌∙◌, ℕ, sym, subst, length, arith, rules, to_z, of_z, w32}
use Rattle.point_codec.specs.Seen.{region_of}
use Rattle.leaf_codec.specs.Ascending.{coordinate}
use Rattle.bkd_reader.proofs.HitLemmas.{read_item}
use Rattle.point_counts.specs.Tables.{AddsCounts, settled_at}
use Rattle.point_counts.proofs.RunCounts.{run_inside, run_settled}
use Rattle.point_counts.proofs.runs.count_run.Goals as goal

pub returns-then-is_settled : goal.returns-then-is_settled
returns-then-is_settled g c = λ live inside alive.
    let leaf = c.args.leaf.now in
    let i = c.args.i in
    let next = c.args.next in
    let d = c.args.d in
    let here : i < length leaf = omega (arith, c.requires.order, c.requires.within) in
    let there : next - 1 < length leaf = omega (arith, c.requires.order, c.requires.within) in
    let low = read_item (λ x. c.coordinate-low.result ≡ coordinate d x) leaf i here c.coordinate-low.ensures in
    let high = read_item (λ x. c.coordinate-high.result ≡ coordinate d x) leaf (next - 1) there c.coordinate-high.ensures in
    let low_is : to_z w32 (of_z w32 c.coordinate-low.result) ≡ c.coordinate-low.result = search rules in
    let high_is : to_z w32 (of_z w32 c.coordinate-high.result) ≡ c.coordinate-high.result = search rules in
    let run = region_of c.narrowed-run.result in
    run_settled (g.S.Sorting.bounds c.args.sorting.now) (g.S.Sorting.place c.args.sorting.now)
    (g.S.Sorting.parts c.args.sorting.now) live run c.lie_of-lie.result leaf i next c.args.table.now
    c.add_all.new.table (omega (arith, c.requires.order)) c.requires.within c.lie_of-lie.ensures
    (sym c.is_settled.ensures ∙ c.if-is_settled.true)
    (run_inside (region_of c.args.cell.now) run d leaf i next _ _
    c.requires.order c.requires.within c.requires.ascends (low_is ∙ low) (high_is ∙ high) c.narrowed-run.ensures inside) alive
    (subst (λ (n : ℕ). AddsCounts (settled_at c.lie_of-lie.result n) c.args.table.now c.add_all.new.table) c.from.ensures
    c.add_all.ensures)

pub returns-in_default : goal.returns-in_default
returns-in_default g c = λ live inside alive. c.count_rest.ensures live alive

pub returns : goal.returns
returns g c = λ live inside alive.
    let leaf = c.args.leaf.now in
    let i = c.args.i in
    let next = c.args.next in
    let d = c.args.d in
    let here : i < length leaf = omega (arith, c.requires.order, c.requires.within) in
    let there : next - 1 < length leaf = omega (arith, c.requires.order, c.requires.within) in
    let low = read_item (λ x. c.coordinate-low.result ≡ coordinate d x) leaf i here c.coordinate-low.ensures in
    let high = read_item (λ x. c.coordinate-high.result ≡ coordinate d x) leaf (next - 1) there c.coordinate-high.ensures in
    let low_is : to_z w32 (of_z w32 c.coordinate-low.result) ≡ c.coordinate-low.result = search rules in
    let high_is : to_z w32 (of_z w32 c.coordinate-high.result) ≡ c.coordinate-high.result = search rules in
    c.count_halves.ensures live
    (run_inside (region_of c.args.cell.now) (region_of c.narrowed-run.result) d leaf i next _ _
    c.requires.order c.requires.within c.requires.ascends (low_is ∙ low) (high_is ∙ high) c.narrowed-run.ensures inside)
    alive
