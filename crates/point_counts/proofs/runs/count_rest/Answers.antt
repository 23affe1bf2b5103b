use Rattle.std.proofs.Common.{◌≡◌, ◌<◌, ◌+◌, ◌∙◌, ℕ, List, ℤ, false, true, refl, ap, sym, subst, length, take, arith, eqb, cond}
use Rattle.point_codec.specs.Points.{in_box}
use Rattle.live_bits.specs.LiveSet.{LiveSet}
use Rattle.bkd_reader.proofs.HitLemmas.{no_item, read_item}
use Rattle.point_counts.specs.Tables.{RaisesCounts, live_at}
use Rattle.point_counts.proofs.Counts.{outside_more, one_more}
use Rattle.point_counts.proofs.RunCounts.{raises, raises_same, raises_then}
use Rattle.point_counts.proofs.runs.count_rest.Goals as goal

pub loop-i-init : goal.loop-i-init
loop-i-init g c =
    let before : LiveSet → ℕ → ℕ = λ live. live_at (g.S.Sorting.bounds c.args.sorting.now) (g.S.Sorting.place c.args.sorting.now) live
    (take c.args.from c.args.leaf.now) in
    record {
      within = omega (arith, c.requires.order);
      raises = λ live alive. raises_same (before live) (before live) c.args.table.now (λ k. refl);
    }

pub loop-i-preserved-in_default : goal.loop-i-preserved-in_default
loop-i-preserved-in_default g c =
    let box = g.S.Sorting.bounds c.args.sorting.now in
    let place = g.S.Sorting.place c.args.sorting.now in
    let leaf = c.args.leaf.now in
    let i = c.loop-i.i in
    let under : i < c.args.end = omega (arith, c.loop-i-test.true) in
    let within : i < length leaf = omega (arith, under, c.requires.within) in
    let point = read_item (λ x. c.point.result.c ≡ x.at) leaf i within c.point.ensures in
    record {
      within = omega (arith, under);
      raises = λ live alive.
          raises_then (live_at box place live (take c.args.from leaf)) (live_at box place live (take i leaf))
          (live_at box place live (take (i + 1) leaf)) c.args.table.now c.loop-i.table c.loop-i.table
          (c.loop-i.invariant.raises live alive)
          (raises_same (live_at box place live (take i leaf)) (live_at box place live (take (i + 1) leaf)) c.loop-i.table
          (outside_more box place live leaf i within
          (subst (λ (p : List ℤ). in_box box p ≡ false) point c.in_default.ensures)));
    }

pub loop-i-preserved : goal.loop-i-preserved
loop-i-preserved g c =
    let box = g.S.Sorting.bounds c.args.sorting.now in
    let place = g.S.Sorting.place c.args.sorting.now in
    let leaf = c.args.leaf.now in
    let i = c.loop-i.i in
    let under : i < c.args.end = omega (arith, c.loop-i-test.true) in
    let within : i < length leaf = omega (arith, under, c.requires.within) in
    let point = read_item (λ x. c.point.result.c ≡ x.at) leaf i within c.point.ensures in
    let inside = subst (λ (p : List ℤ). in_box box p ≡ true) point c.in-Some.ensures.0 in
    let there = c.in-Some.ensures.1 ∙ ap place point in
    record {
      within = omega (arith, under);
      raises = λ live alive.
          raises_then (live_at box place live (take c.args.from leaf)) (live_at box place live (take i leaf))
          (live_at box place live (take (i + 1) leaf)) c.args.table.now c.loop-i.table c.add.new.table
          (c.loop-i.invariant.raises live alive)
          (raises (live_at box place live (take i leaf)) (λ k. cond (eqb c.in-Some.place k) 1 0)
          (live_at box place live (take (i + 1) leaf)) c.loop-i.table c.add.new.table
          (λ k. one_more box place live leaf i within (alive i no_item within) inside k
          ∙ ap (λ (n : ℕ). live_at box place live (take i leaf) k + cond (eqb n k) 1 0) (sym there)) c.add.ensures);
    }

pub returns : goal.returns
returns g c = λ live alive.
    let box = g.S.Sorting.bounds c.args.sorting.now in
    let place = g.S.Sorting.place c.args.sorting.now in
    let all : c.loop-i.i ≡ c.args.end = omega (arith, c.loop-i-test.false, c.loop-i.invariant.within) in
    subst (λ (n : ℕ). RaisesCounts (live_at box place live (take c.args.from c.args.leaf.now))
    (live_at box place live (take n c.args.leaf.now)) c.args.table.now c.loop-i.table) all
    (c.loop-i.invariant.raises live alive)
