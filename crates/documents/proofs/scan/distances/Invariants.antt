use Rattle.std.proofs.Common.{◌≡◌, ◌++◌, drop}
use Rattle.documents.specs.Nearest.{distances, found_of}
use Rattle.documents.proofs.scan.distances.Given as goal

-- those so far and those of what is left make the whole
abbrev pub invariant-loop-doc : goal.invariant-loop-doc
invariant-loop-doc g l = found_of l.found.items ++ distances l.at.c (drop l.doc-index l.docs) ≡ distances l.at.c l.docs
