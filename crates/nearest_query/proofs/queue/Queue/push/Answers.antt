use Rattle.std.proofs.Common.{List, sym, subst}
use Rattle.nearest_query.specs.declared.frontier.Waiting.{Waiting}
use Rattle.nearest_query.specs.Fronts.{IsNearestWaiting}
use Rattle.nearest_query.proofs.queue.Queue.push.Goals as goal

pub push_farther-requires-clause-least : goal.push_farther-requires-clause-least
push_farther-requires-clause-least c = c.self.invariant.1 c.in-Some.front c.in-Some.is

pub invariant_of-self : goal.invariant_of-self
invariant_of-self c = (
  c.push_farther.ensures.heap,
  λ t e. subst (λ (waiting : List Waiting). IsNearestWaiting t waiting) (sym c.in_err-push_farther.ensures.same) (c.self.invariant.1 t e),
)
