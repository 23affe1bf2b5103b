use Rattle.std.proofs.Common.{ltb, get_or}
use Rattle.leaf_codec.proofs.Narrowest.{IsNarrowestBelow}
use Rattle.leaf_codec.proofs.dimensions.narrowest.Given as goal

abbrev pub invariant-loop-d : goal.invariant-loop-d
invariant-loop-d l = IsNarrowestBelow l.d l.dims (λ d. ltb (get_or l.lengths d 0) 4) (λ d. get_or l.spreads d 0) l.best l.least
