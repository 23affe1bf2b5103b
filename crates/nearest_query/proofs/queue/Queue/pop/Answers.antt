use Rattle.std.proofs.Common.{◌++◌, Option, sym, subst}
use Rattle.std.specs.Prelude.{option_to_list}
use Rattle.std.specs.BinaryHeap.{heap_items, IsHeap}
use Rattle.nearest_query.specs.declared.frontier.Waiting.{Waiting}
use Rattle.nearest_query.specs.Fronts.{wait_cmp, IsNearestWaiting}
use Rattle.nearest_query.proofs.Waits.{least_popped}
use Rattle.nearest_query.proofs.queue.Queue.pop.Goals as goal

pub returns-in-Some-clause-least : goal.returns-in-Some-clause-least
returns-in-Some-clause-least c =
    subst (λ (o : Option Waiting). IsNearestWaiting c.in-Some.front (option_to_list o ++ heap_items c.self.inside.others)) (sym c.take.ensures.after)
    (c.self.invariant.1 c.in-Some.front (sym c.in-Some.ensures.value))

pub returns-clause-least : goal.returns-clause-least
returns-clause-least c =
    least_popped (IsHeap wait_cmp (heap_items c.self.inside.others)) c.pop.result c.take.new.self (heap_items c.pop.new.self) c.take.ensures.after
    c.self.invariant.0 c.pop.ensures.below_top
