-- What contracts see of sources and sinks over std.
use Rattle.std.specs.Prelude.{ℕ}
use Rattle.outer_io.specs.declared.std_streams.StdSource.{StdSource}
use Rattle.outer_io.specs.declared.std_streams.StdSink.{StdSink}

-- how many calls of the source failed
abbrev pub input_faults : {R : Type 0} → StdSource R → ℕ
input_faults s = s.faults.raised

-- how many calls of the sink failed
abbrev pub output_faults : {W : Type 0} → StdSink W → ℕ
output_faults k = k.faults.raised

-- the reader under the source
abbrev pub input_of : {R : Type 0} → StdSource R → R
input_of s = s.input

-- the writer under the sink
abbrev pub output_of : {W : Type 0} → StdSink W → W
output_of k = k.output
