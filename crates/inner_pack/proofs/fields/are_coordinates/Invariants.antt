use Rattle.std.proofs.Common.{◌<◌, ℕ, get_or, pos, FitsSigned, w32}
use Rattle.inner_pack.proofs.fields.are_coordinates.Given as goal

abbrev pub invariant-loop-d : goal.invariant-loop-d
invariant-loop-d g l = (k : ℕ) → k < l.d → FitsSigned w32 (get_or l.c k (pos 0))
