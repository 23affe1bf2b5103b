use Rattle.std.proofs.Common.{◌≡◌, ◌≤◌, List, take, subst, arith}
use Rattle.std.proofs.lemmas.List.{take_all}
use Rattle.live_bits.specs.LiveSet.{LiveSet}
use Rattle.stored_index.specs.Segments.{places}
use Rattle.document_checks.proofs.MarkedSets.{counted_one}
use Rattle.document_checks.proofs.placing.least_doubled.Goals as goal

pub returns-clause-before : goal.returns-clause-before
returns-clause-before c n lt =
    let lives = c.args.lives.now in
    let all : take c.loop-live.live-index lives ≡ lives = take_all c.loop-live.live-index lives (omega arith) in
    subst (λ (sets : List LiveSet). places n sets ≤ 1) all
    (counted_one (take c.loop-live.live-index lives) c.args.next c.loop-live.limit n c.loop-live.marks c.loop-live.invariant lt)
