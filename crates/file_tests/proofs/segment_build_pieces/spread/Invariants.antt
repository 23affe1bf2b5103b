use Rattle.bkd_build.proofs.Numbered.{AreNumbered}
use Rattle.file_tests.proofs.segment_build_pieces.spread.Given as goal

abbrev pub invariant-loop-doc : goal.invariant-loop-doc
invariant-loop-doc l = AreNumbered l.doc l.entries.items
