use Rattle.std.proofs.Common.{◌≡◌, ℕ, ◌<◌, ◌-◌, ◌++◌, List, length, take, drop, sym, ap, ◌∙◌, arith}
use Rattle.point_codec.specs.Seen.{region_of}
use Rattle.ring_parity.specs.declared.edges.Edge.{Edge}
use Rattle.edge_tree.specs.Levels.{meeting}
use Rattle.edge_tree.proofs.Gathering.{gathered_one, left_one, met_in_range, longer_met}
use Rattle.edge_tree.proofs.level.gather.Goals.{then-not-misses+else-len-start, else-not-misses}
use Rattle.edge_tree.proofs.level.gather.Goals as goal

pub returns-then-len-start-clause-meets : goal.returns-then-len-start-clause-meets
returns-then-len-start-clause-meets c =
    let old : List Edge = c.args.listed.now.items in
    sym (met_in_range (region_of c.args.c.now) old (meeting (region_of c.args.c.now) (take (c.loop-i.i - c.args.first) (drop c.args.first old)))
    c.loop-i.listed.items c.args.first c.loop-i.i c.args.end c.index.result.now c.loop-i.auto.i c.loop-i-test.true
    (omega (arith, c.requires.there, c.args.listed.now.ok.0)) c.loop-i.invariant.all c.index.ensures (sym c.misses.ensures ∙ c.if-not-misses.true))

pub loop-i-preserved : goal.loop-i-preserved
loop-i-preserved c =
    let old : List Edge = c.args.listed.now.items in
    let there : c.loop-i.i < length old = omega (arith, c.requires.there, c.args.listed.now.ok.0, c.loop-i-test.true) in
    elim c.if-not-misses.branch [
      | then-not-misses+else-len-start w ↦ rw w.listed-is (record {
        all = gathered_one (region_of c.args.c.now) old c.loop-i.listed.items w.push_reserved.new.self.items c.args.first c.loop-i.i c.index.result.now
            c.loop-i.auto.i there c.loop-i.invariant.all c.index.ensures (sym c.misses.ensures ∙ w.if-not-misses.true) w.push_reserved.ensures.items;
        longer = omega (arith, c.loop-i.invariant.longer, w.push_reserved.ensures.len);
        few = omega (arith, c.loop-i.invariant.few, w.push_reserved.ensures.len);
        room = w.push_reserved.ensures.capacity ∙ c.loop-i.invariant.room;
      })
      | else-not-misses w ↦ rw w.listed-is (record {
        all = left_one (region_of c.args.c.now) old c.loop-i.listed.items c.args.first c.loop-i.i c.index.result.now
            c.loop-i.auto.i there c.loop-i.invariant.all c.index.ensures (sym c.misses.ensures ∙ w.if-not-misses.false);
        longer = c.loop-i.invariant.longer;
        few = omega (arith, c.loop-i.invariant.few);
        room = c.loop-i.invariant.room;
      })
    ]

pub returns-clause-meets : goal.returns-clause-meets
returns-clause-meets c =
    let old : List Edge = c.args.listed.now.items in
    let ended : c.loop-i.i ≡ c.args.end = omega arith in
    longer_met (region_of c.args.c.now) old c.loop-i.listed.items c.args.first c.args.end c.len-start.result c.len-2.result
    (c.loop-i.invariant.all ∙ ap (λ (k : ℕ). old ++ meeting (region_of c.args.c.now) (take (k - c.args.first) (drop c.args.first old))) ended)
    (omega (arith, c.len-start.ensures, c.args.listed.now.ok.0)) (omega (arith, c.len-2.ensures, c.loop-i.listed.ok.0))
