use Rattle.std.proofs.Common.{◌≡◌, List, take, subst, arith}
use Rattle.std.proofs.lemmas.List.{take_all}
use Rattle.live_bits.specs.LiveSet.{LiveSet}
use Rattle.stored_index.specs.Segments.{places}
use Rattle.document_checks.proofs.MarkedSets.{not_given_more}
use Rattle.document_checks.proofs.placing.least_beyond.Goals as goal

pub loop-live-preserved : goal.loop-live-preserved
loop-live-preserved c =
    let told = c.first_live-limit.ensures in
    not_given_more c.args.lives.now c.loop-live.live-index c.args.next c.loop-live.limit c.first_live-limit.result c.live-item.result c.loop-live-test.true
    c.live-item.is
    c.loop-live.invariant told.within told.before told.found told.above

pub returns-clause-before : goal.returns-clause-before
returns-clause-before c n high lt =
    let lives = c.args.lives.now in
    let all : take c.loop-live.live-index lives ≡ lives = take_all c.loop-live.live-index lives (omega arith) in
    subst (λ (sets : List LiveSet). places n sets ≡ 0) all (c.loop-live.invariant.before n high lt)

pub returns-clause-above : goal.returns-clause-above
returns-clause-above c n high =
    let lives = c.args.lives.now in
    let all : take c.loop-live.live-index lives ≡ lives = take_all c.loop-live.live-index lives (omega arith) in
    subst (λ (sets : List LiveSet). places n sets ≡ 0) all (c.loop-live.invariant.above n high)
