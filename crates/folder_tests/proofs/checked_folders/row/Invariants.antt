use Rattle.bkd_build.proofs.Numbered.{AreNumbered}
use Rattle.folder_tests.proofs.checked_folders.row.Given as goal

abbrev pub invariant-loop-doc : goal.invariant-loop-doc
invariant-loop-doc l = AreNumbered l.doc l.entries.items
