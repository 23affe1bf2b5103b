use Rattle.std.proofs.Common.{◌<◌, ◌≤◌, ◌+◌, subst, sym, ◌-◌, ◌/◌, ℕ, true, false, length, arith, rules}
use Rattle.leaf_codec.proofs.Ascending.{coordinate_said, test_at, below_up_to, above_from, all_below, all_above, min_within}
use Rattle.leaf_codec.proofs.view.LeafView.count_below.Goals as goal

pub loop-at-preserved-then-coordinate-x : goal.loop-at-preserved-then-coordinate-x
loop-at-preserved-then-coordinate-x g c =
    let l = c.loop-at in
    let under : l.at < l.end = omega (arith, c.loop-at-test.true) in
    let inside : l.at < length c.args.self.now = omega (arith, under, l.invariant.within) in
    let is = coordinate_said c.args.d l.at c.args.self.now c.coordinate.result inside c.coordinate.ensures in
    record {
      near = search rules;
      few = search rules;
      ordered = omega (arith, under);
      within = l.invariant.within;
      below = λ k lt. below_up_to c.args.d l.at k c.args.self.now c.args.x.now c.requires.ascends inside (omega (arith, lt))
          (test_at c.coordinate.result c.args.x.now _ true (search rules) (search rules) is c.if-coordinate-x.true);
      above = l.invariant.above;
    }

pub overflow_add-at : goal.overflow_add-at
overflow_add-at g c =
    let ahead : c.min.result ≤ c.loop-at.end - (c.loop-at.at + 1) =
    subst (λ n. n ≤ c.loop-at.end - (c.loop-at.at + 1)) (sym c.min.ensures) (min_within c.loop-at.step (c.loop-at.end - (c.loop-at.at + 1))) in
    omega (arith, ahead, c.loop-at-test.true, c.loop-at.auto.end-fits)

pub loop-at-preserved : goal.loop-at-preserved
loop-at-preserved g c =
    let l = c.loop-at in
    let under : l.at < l.end = omega (arith, c.loop-at-test.true) in
    let inside : l.at < length c.args.self.now = omega (arith, under, l.invariant.within) in
    let is = coordinate_said c.args.d l.at c.args.self.now c.coordinate.result inside c.coordinate.ensures in
    record {
      near = omega arith;
      few = l.invariant.few;
      ordered = l.invariant.near;
      within = omega (arith, inside);
      below = l.invariant.below;
      above = λ k le lt. above_from c.args.d l.at k c.args.self.now c.args.x.now c.requires.ascends le lt
          (test_at c.coordinate.result c.args.x.now _ false (search rules) (search rules) is c.if-coordinate-x.false);
    }

pub loop-from-preserved-then-coordinate-x-2 : goal.loop-from-preserved-then-coordinate-x-2
loop-from-preserved-then-coordinate-x-2 g c =
    let l = c.loop-from in
    let half : ℕ = l.from + (l.end - l.from) / 2 in
    let under : half < l.end = omega (arith, c.loop-from-test.true) in
    let inside : half < length c.args.self.now = omega (arith, under, l.invariant.within) in
    let is = coordinate_said c.args.d half c.args.self.now c.coordinate-in-loop-from.result inside c.coordinate-in-loop-from.ensures in
    record {
      ordered = omega (arith, under);
      within = l.invariant.within;
      below = λ k lt. below_up_to c.args.d half k c.args.self.now c.args.x.now c.requires.ascends inside (omega (arith, lt))
          (test_at c.coordinate-in-loop-from.result c.args.x.now _ true (search rules) (search rules) is c.if-coordinate-x-2.true);
      above = l.invariant.above;
    }

pub loop-from-preserved : goal.loop-from-preserved
loop-from-preserved g c =
    let l = c.loop-from in
    let half : ℕ = l.from + (l.end - l.from) / 2 in
    let under : half < l.end = omega (arith, c.loop-from-test.true) in
    let inside : half < length c.args.self.now = omega (arith, under, l.invariant.within) in
    let is = coordinate_said c.args.d half c.args.self.now c.coordinate-in-loop-from.result inside c.coordinate-in-loop-from.ensures in
    record {
      ordered = omega (arith, under);
      within = omega (arith, inside);
      below = l.invariant.below;
      above = λ k le lt. above_from c.args.d half k c.args.self.now c.args.x.now c.requires.ascends le lt
          (test_at c.coordinate-in-loop-from.result c.args.x.now _ false (search rules) (search rules) is c.if-coordinate-x-2.false);
    }

pub returns-clause-below : goal.returns-clause-below
returns-clause-below g c =
    let l = c.loop-from in
    all_below c.args.d l.from c.args.self.now c.args.x.now (omega (arith, l.invariant.ordered, l.invariant.within)) l.invariant.below

pub returns-clause-above : goal.returns-clause-above
returns-clause-above g c =
    let l = c.loop-from in
    all_above c.args.d l.from c.args.self.now c.args.x.now (omega (arith, l.invariant.ordered, l.invariant.within))
    (λ k le lt. l.invariant.above k (omega (arith, le, c.loop-from-test.false)) lt)
