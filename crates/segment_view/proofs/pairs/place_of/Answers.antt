use Rattle.std.proofs.Common.{◌<◌, ap, subst, arith}
use Rattle.std.proofs.lemmas.List.Elements.{All-more}
use Rattle.segment_file.specs.Heads.{Head}
use Rattle.segment_view.proofs.Ascending.{other_id, above_place}
use Rattle.segment_view.proofs.pairs.place_of.Goals as goal

pub returns-then-id-clause-above : goal.returns-then-id-clause-above
returns-then-id-clause-above g c =
    let head = c.index-heads-i.result in
    let greater : c.args.id < head.id = omega (arith, c.if-id.true, c.id.ensures) in
    above_place c.args.heads.now c.loop-i.i c.args.id head c.requires.ascend c.loop-i-test.true
    (subst (λ (h : Head). c.args.id < h.id) c.index-heads-i.is greater)

pub loop-i-preserved : goal.loop-i-preserved
loop-i-preserved g c =
    let head = c.index-heads-i.result in
    let other = other_id c.args.heads.now c.args.id c.loop-i.i head c.requires.fresh c.loop-i-test.true in
    let same = ap (λ (h : Head). h.id) c.index-heads-i.is in
    All-more (λ (h : Head). h.id < c.args.id) c.args.heads.now c.loop-i.i head c.loop-i-test.true c.loop-i.invariant
    (omega (arith, c.if-id.false, c.id.ensures, same, other))
