-- Which calls of an object in memory fail, so that a test can fail each call in turn, or stop the
-- program between any two (this project's own).
use Rattle.std.specs.Prelude.{ℕ, ◌+◌, ◌-◌, ◌^◌, ◌≤◌, ◌⊎◌, min, List, Option, Contains, IsSomeAnd}

-- the calls that fail by their numbers, the number from which on all fail and do nothing, and how many calls were
-- made, which is the number of the next one
pub record FaultPlan : Type 0 where
  pub fail : List ℕ
  pub stop : Option ℕ
  pub made : ℕ

-- a plan of which no call was made
abbrev pub plan_from : List ℕ → Option ℕ → FaultPlan
plan_from fail stop = record { fail = fail; stop = stop; made = 0 }

-- the next call fails and does nothing
abbrev pub CallStops : FaultPlan → Type 0
CallStops plan = IsSomeAnd plan.stop (λ first. first ≤ plan.made)

-- the next call fails, by its number or since the calls stop
abbrev pub CallFails : FaultPlan → Type 0
CallFails plan = Contains plan.fail plan.made ⊎ CallStops plan

-- one more call was made; the count of calls stands still at the last value of u64
abbrev pub after_call : FaultPlan → FaultPlan
after_call plan = record plan { made = min (plan.made + 1) (2 ^ 64 - 1) }
