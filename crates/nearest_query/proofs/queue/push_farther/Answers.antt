use Rattle.std.proofs.Common.{◌∷◌, arith}
use Rattle.std.proofs.lemmas.List.Sorted.{IsPermutation-cons}
use Rattle.std.specs.BinaryHeap.{heap_items}
use Rattle.nearest_query.proofs.Waits.{least_put, least_nearer, put_behind}
use Rattle.nearest_query.proofs.queue.push_farther.Goals as goal

pub returns-then-waiting-front-clause-least : goal.returns-then-waiting-front-clause-least
returns-then-waiting-front-clause-least c =
    let old = heap_items c.args.others.now in
    least_put c.args.waiting c.args.front old (heap_items c.push.new.self) (omega (arith, c.if-waiting-front.true))
    (least_nearer c.args.waiting c.args.front old (omega (arith, c.if-waiting-front.true)) c.requires.least) c.in_ok-push.ensures.permutation

pub returns-then-waiting-front-clause-put : goal.returns-then-waiting-front-clause-put
returns-then-waiting-front-clause-put c =
    IsPermutation-cons c.args.waiting (c.args.front ∷ heap_items c.args.others.now) (heap_items c.push.new.self) c.in_ok-push.ensures.permutation

pub returns-clause-least : goal.returns-clause-least
returns-clause-least c =
    least_put c.args.front c.args.waiting (heap_items c.args.others.now) (heap_items c.push-2.new.self) (omega (arith, c.if-waiting-front.false))
    c.requires.least
    c.in_ok-push-2.ensures.permutation

pub returns-clause-put : goal.returns-clause-put
returns-clause-put c =
    put_behind c.args.waiting c.args.front (heap_items c.args.others.now) (heap_items c.push-2.new.self) c.in_ok-push-2.ensures.permutation
