use Rattle.std.proofs.Common.{◌≡◌, ℕ, refl, subst, take, arith}
use Rattle.live_bits.specs.LiveSet.{LiveSet}
use Rattle.point_counts.specs.Tables.{RaisesCounts, live_at}
use Rattle.point_counts.proofs.RunCounts.{raises_same, raises_then}
use Rattle.point_counts.proofs.runs.count_runs.Goals as goal

pub loop-i-init : goal.loop-i-init
loop-i-init g c =
    let before : LiveSet → ℕ → ℕ = λ live. live_at (g.S.Sorting.bounds c.args.sorting.now) (g.S.Sorting.place c.args.sorting.now) live
    (take c.args.from c.args.leaf.now) in
    record {
      within = omega (arith, c.requires.order);
      raises = λ live inside alive. raises_same (before live) (before live) c.args.table.now (λ k. refl);
    }

pub returns-then-is_short : goal.returns-then-is_short
returns-then-is_short g c = λ live inside alive.
    let box = g.S.Sorting.bounds c.args.sorting.now in
    let place = g.S.Sorting.place c.args.sorting.now in
    let leaf = c.args.leaf.now in
    raises_then (live_at box place live (take c.args.from leaf)) (live_at box place live (take c.loop-i.i leaf))
    (live_at box place live (take c.args.end leaf)) c.args.table.now c.loop-i.table c.count_rest.new.table
    (c.loop-i.invariant.raises live inside alive) (c.count_rest.ensures live alive)

pub loop-i-preserved : goal.loop-i-preserved
loop-i-preserved g c =
    let box = g.S.Sorting.bounds c.args.sorting.now in
    let place = g.S.Sorting.place c.args.sorting.now in
    let leaf = c.args.leaf.now in
    record {
      within = c.run_end-next.ensures.1;
      raises = λ live inside alive.
          raises_then (live_at box place live (take c.args.from leaf)) (live_at box place live (take c.loop-i.i leaf))
          (live_at box place live (take c.run_end-next.result leaf)) c.args.table.now c.loop-i.table c.count_run.new.table
          (c.loop-i.invariant.raises live inside alive) (c.count_run.ensures live inside alive);
    }

pub returns : goal.returns
returns g c = λ live inside alive.
    let box = g.S.Sorting.bounds c.args.sorting.now in
    let place = g.S.Sorting.place c.args.sorting.now in
    let all : c.loop-i.i ≡ c.args.end = omega (arith, c.loop-i-test.false, c.loop-i.invariant.within) in
    subst (λ (n : ℕ). RaisesCounts (live_at box place live (take c.args.from c.args.leaf.now))
    (live_at box place live (take n c.args.leaf.now)) c.args.table.now c.loop-i.table) all
    (c.loop-i.invariant.raises live inside alive)
