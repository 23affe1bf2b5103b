use Rattle.std.proofs.Common.{◌≡◌, ◌++◌, drop}
use Rattle.documents.specs.Documents.{hits}
use Rattle.documents.proofs.scan.scan_hits.Given as goal

-- what was found and what is left make the whole
abbrev pub invariant-loop-doc : goal.invariant-loop-doc
invariant-loop-doc g l = record {
  whole : l.found.items ++ hits (g.S.Shape.has l.shape) (drop l.doc-index l.docs) ≡ hits (g.S.Shape.has l.fn.shape) l.docs;
  same : g.S.Shape.has l.shape ≡ g.S.Shape.has l.fn.shape;
}
