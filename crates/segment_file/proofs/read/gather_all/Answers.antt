use Rattle.std.proofs.Common.{arith}
use Rattle.inner_pack.specs.Places.{front}
use Rattle.inner_pack.specs.Bodies.{HasTree}
use Rattle.segment_file.specs.Segments.{IsSegment}
use Rattle.segment_file.proofs.Subtrees.{count_shaped}
use Rattle.segment_file.proofs.read.gather_all.Goals as goal

pub returns-clause-reads : goal.returns-clause-reads
returns-clause-reads g c = λ root t has.
    let here : HasTree g.row.D c.index.result.now root t = rw c.index.ensures.value has in
    let count = count_shaped c.args.head.now.index.leaves t has.tree.shaped in
    rw (← count) (c.gather.ensures.reads 0 front root t (c.walk-root.ensures root t here))

pub returns-clause-pages : goal.returns-clause-pages
returns-clause-pages g c = λ root t has.
    let here : HasTree g.row.D c.index.result.now root t = rw c.index.ensures.value has in
    let each = (c.gather.ensures.pages 0 front root t (c.walk-root.ensures root t here)).all in
    omega (arith, each)

pub returns-clause-gathers : goal.returns-clause-gathers
returns-clause-gathers g c = λ told agrees root t has.
    let here : HasTree g.row.D c.index.result.now root t = rw c.index.ensures.value has in
    c.gather.ensures.gathers told agrees 0 front root t (c.walk-root.ensures root t here)

pub returns-clause-shown : goal.returns-clause-shown
returns-clause-shown g c = λ root t has.
    let here : HasTree g.row.D c.index.result.now root t = rw c.index.ensures.value has in
    c.gather.ensures.shown 0 front root t (c.walk-root.ensures root t here)

pub returns-clause-whole : goal.returns-clause-whole
unfolding IsSegment
returns-clause-whole g c = λ told agrees items p.
    let here : HasTree g.row.D c.index.result.now p.root p.tree = rw c.index.ensures.value p.has in
    c.gather.ensures.whole told agrees 0 front p.root p.tree (c.walk-root.ensures p.root p.tree here) items p.holds
