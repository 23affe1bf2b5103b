-- What contracts see of a source in memory.
use Rattle.std.specs.Prelude.{ℕ, List, drop}
use Rattle.outer_io.specs.declared.mem_source.MemSource.{MemSource}
use Rattle.outer_io.specs.Plan.{FaultPlan}
use Rattle.outer_io.specs.Calls.{plan_of}

-- the bytes that it has left
abbrev pub source_left : MemSource → List ℕ
source_left s = drop s.at s.bytes.items

-- which of its calls fail
abbrev pub source_plan : MemSource → FaultPlan
source_plan s = plan_of s.calls

-- how many of its calls failed
abbrev pub source_faults : MemSource → ℕ
source_faults s = s.calls.faults.raised
