use Rattle.bkd_build.proofs.Numbered.{AreNumbered}
use Rattle.codec_tests.proofs.bkd_build_trees.drawn.Given as goal

abbrev pub invariant-loop-doc : goal.invariant-loop-doc
invariant-loop-doc l = AreNumbered l.doc l.entries.items
