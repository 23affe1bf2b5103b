use Rattle.std.proofs.Common.{◌≡◌, take}
use Rattle.index_model.proofs.held.copy_all.Given as goal

abbrev pub invariant-loop-doc : goal.invariant-loop-doc
invariant-loop-doc g l = l.copies.items ≡ take l.doc-index l.docs
