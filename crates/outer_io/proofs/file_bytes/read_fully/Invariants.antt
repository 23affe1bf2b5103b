use Rattle.std.proofs.Common.{◌≤◌, length}
use Rattle.outer_io.proofs.file_bytes.read_fully.Given as goal

abbrev pub invariant-loop : goal.invariant-loop
invariant-loop g l = l.count ≤ length l.buf
