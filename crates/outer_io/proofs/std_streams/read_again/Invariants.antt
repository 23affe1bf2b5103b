use Rattle.std.specs.Io.KnownBytes.{Keeps}
use Rattle.outer_io.proofs.std_streams.read_again.Given as goal

-- nothing was read so far
abbrev pub invariant-again : goal.invariant-again
invariant-again g l = Keeps (g.R.Read.remaining l.initial.input) (g.R.Read.remaining l.input)
