use Rattle.std.proofs.Common.{◌≡◌, ◌<◌, ◌++◌, ◌∷◌, [], ◌∙◌, ap, sym, refl, length, take, arith}
use Rattle.std.proofs.lemmas.List.{append_assoc}
use Rattle.bkd_reader.specs.Hits.{hits_in}
use Rattle.bkd_reader.proofs.HitLemmas.{read_item, hit_more, dead_more, outside_more}
use Rattle.bkd_reader.proofs.OutOfReach.{none_before, none_behind}
use Rattle.bkd_reader.proofs.crossed.push_tested.Goals as goal

pub loop-i-init : goal.loop-i-init
loop-i-init g c = record {
  hits = none_before (g.S.Shape.has c.args.shape.now) c.args.live.now c.args.hits.now.items c.args.leaf.now
      c.within_reach-from.result.0 c.within_reach-from.ensures.before;
  within = c.within_reach-from.ensures.within.0;
  tests = omega arith;
  compares = refl;
  has = refl;
  crosses = refl;
}

pub loop-i-preserved-then-not-contains : goal.loop-i-preserved-then-not-contains
loop-i-preserved-then-not-contains g c =
    let within : c.loop-i.i < length c.args.leaf.now = omega (arith, c.loop-i-test.true, c.within_reach-from.ensures.within) in
    let point = read_item (λ x. c.point.result.c ≡ x.at) c.args.leaf.now c.loop-i.i within c.point.ensures in
    let was = c.loop-i.invariant in
    let out =
    ap (g.S.Shape.has c.args.shape.now) (sym point) ∙ sym (ap (λ f. f c.point.result.c) was.has) ∙ sym c.contains.ensures.answer ∙ c.if-not-contains.true in
    record {
      hits = was.hits
          ∙ ap (λ z. c.args.hits.now.items ++ z) (sym (outside_more (g.S.Shape.has c.args.shape.now) c.args.live.now c.args.leaf.now c.loop-i.i within out));
      within = omega (arith, within);
      tests = let few = was.tests in let one = c.contains.ensures.tests in omega (arith, few, one);
      compares = c.contains.ensures.compares ∙ was.compares;
      has = c.contains.ensures.has ∙ was.has;
      crosses = c.contains.ensures.crosses ∙ was.crosses;
    }

pub loop-i-preserved-then-not-is_live : goal.loop-i-preserved-then-not-is_live
loop-i-preserved-then-not-is_live g c =
    let within : c.loop-i.i < length c.args.leaf.now = omega (arith, c.loop-i-test.true, c.within_reach-from.ensures.within) in
    let doc = read_item (λ x. c.doc-doc.result ≡ x.doc) c.args.leaf.now c.loop-i.i within c.doc-doc.ensures in
    let was = c.loop-i.invariant in
    record {
      hits = was.hits
          ∙ ap (λ z. c.args.hits.now.items ++ z)
          (sym (dead_more (g.S.Shape.has c.args.shape.now) c.args.live.now c.args.leaf.now c.loop-i.i c.doc-doc.result within doc
          (sym c.is_live.ensures ∙ c.if-not-is_live.true)));
      within = omega (arith, within);
      tests = let few = was.tests in let one = c.contains.ensures.tests in omega (arith, few, one);
      compares = c.contains.ensures.compares ∙ was.compares;
      has = c.contains.ensures.has ∙ was.has;
      crosses = c.contains.ensures.crosses ∙ was.crosses;
    }

pub loop-i-preserved : goal.loop-i-preserved
loop-i-preserved g c =
    let within : c.loop-i.i < length c.args.leaf.now = omega (arith, c.loop-i-test.true, c.within_reach-from.ensures.within) in
    let doc = read_item (λ x. c.doc-doc.result ≡ x.doc) c.args.leaf.now c.loop-i.i within c.doc-doc.ensures in
    let point = read_item (λ x. c.point.result.c ≡ x.at) c.args.leaf.now c.loop-i.i within c.point.ensures in
    let was = c.loop-i.invariant in
    let got = ap (g.S.Shape.has c.args.shape.now) (sym point) ∙ sym (ap (λ f. f c.point.result.c) was.has) ∙ sym c.contains.ensures.answer
    ∙ c.if-not-contains.false in
    record {
      hits = c.in_ok-push.ensures.items ∙ ap (λ z. z ++ c.doc-doc.result ∷ []) was.hits
          ∙ append_assoc c.args.hits.now.items (hits_in (g.S.Shape.has c.args.shape.now) c.args.live.now (take c.loop-i.i c.args.leaf.now))
          (c.doc-doc.result ∷ [])
          ∙ ap (λ z. c.args.hits.now.items ++ z)
          (sym (hit_more (g.S.Shape.has c.args.shape.now) c.args.live.now c.args.leaf.now c.loop-i.i c.doc-doc.result within doc
          (sym c.is_live.ensures ∙ c.if-not-is_live.false) got));
      within = omega (arith, within);
      tests = let few = was.tests in let one = c.contains.ensures.tests in omega (arith, few, one);
      compares = c.contains.ensures.compares ∙ was.compares;
      has = c.contains.ensures.has ∙ was.has;
      crosses = c.contains.ensures.crosses ∙ was.crosses;
    }

pub returns-clause-hits : goal.returns-clause-hits
returns-clause-hits g c =
    let l = c.loop-i in
    let behind = none_behind (g.S.Shape.has c.args.shape.now) c.args.live.now c.args.leaf.now l.i c.within_reach-from.result.1
    (omega (arith, c.loop-i-test.false)) c.within_reach-from.ensures.behind in
    l.invariant.hits ∙ ap (λ z. c.args.hits.now.items ++ z) behind
