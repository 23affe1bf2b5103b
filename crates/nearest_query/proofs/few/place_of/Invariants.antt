use Rattle.std.proofs.Common.{◌≢◌, All, take}
use Rattle.nearest_query.proofs.few.place_of.Given as goal

abbrev pub invariant-loop-i : goal.invariant-loop-i
invariant-loop-i l = All (λ a. a.doc ≢ l.doc) (take l.i l.nears)
