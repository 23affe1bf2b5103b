use Rattle.std.specs.Io.KnownBytes.{Keeps}
use Rattle.outer_io.proofs.std_streams.write_again.Given as goal

-- nothing was written so far
abbrev pub invariant-again : goal.invariant-again
invariant-again g l = Keeps (g.W.Write.contents l.initial.output) (g.W.Write.contents l.output)
