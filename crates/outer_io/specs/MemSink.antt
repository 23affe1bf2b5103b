-- What contracts see of a sink in memory.
use Rattle.std.specs.Prelude.{ℕ, ◌-◌, List, vec_len}
use Rattle.outer_io.specs.declared.mem_sink.MemSink.{MemSink}
use Rattle.outer_io.specs.Plan.{FaultPlan}
use Rattle.outer_io.specs.Calls.{plan_of}

-- the bytes that it took
abbrev pub sink_written : MemSink → List ℕ
sink_written k = k.bytes.items

-- how many bytes it has room left for
abbrev pub sink_room : MemSink → ℕ
sink_room k = k.room - vec_len k.bytes

-- which of its calls fail
abbrev pub sink_plan : MemSink → FaultPlan
sink_plan k = plan_of k.calls

-- how many of its calls failed
abbrev pub sink_faults : MemSink → ℕ
sink_faults k = k.calls.faults.raised
