use Rattle.std.proofs.Common.{◌≡◌, drop}
use Rattle.documents.specs.Documents.{is_live}
use Rattle.index_model.proofs.held.is_live.Given as goal

abbrev pub invariant-loop-doc : goal.invariant-loop-doc
invariant-loop-doc g l = is_live l.number (drop l.doc-index l.docs) ≡ is_live l.number l.docs
