use Rattle.std.proofs.Common.{◌<◌}
use Rattle.std.specs.Prelude.{All}
use Rattle.search_tests.proofs.long_leaves.numbers.Given as goal

abbrev pub invariant-loop-doc : goal.invariant-loop-doc
invariant-loop-doc l = All (λ d. d < 16777216) l.docs.items
