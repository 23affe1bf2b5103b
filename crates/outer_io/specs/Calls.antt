-- What the count of calls of an object in memory stands for.
use Rattle.std.specs.Prelude.{Contains}
use Rattle.outer_io.specs.declared.calls.Calls.{Calls}
use Rattle.outer_io.specs.declared.calls.Fate.{Fate}
use Rattle.outer_io.specs.declared.calls.Fate.TheVariants.{Done, Torn, Stopped}
use Rattle.outer_io.specs.Plan.{FaultPlan, CallFails, CallStops}

-- the plan that a count of calls follows
abbrev pub plan_of : Calls → FaultPlan
plan_of calls = record { fail = calls.fail.items; stop = calls.stop; made = calls.made }

-- what the plan makes of the next call
abbrev pub IsFate : FaultPlan → Fate → Type 0
IsFate plan Done = ¬ CallFails plan
IsFate plan Torn = Contains plan.fail plan.made × (¬ CallStops plan)
IsFate plan Stopped = CallStops plan
