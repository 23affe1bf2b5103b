use Rattle.leaf_codec.specs.LeafOrder.{NoneTwice}
use Rattle.point_codec.specs.Seen.{items_of}
use Rattle.document_checks.specs.Crowded.{AreFew, IsLeastCrowded}
use Rattle.segment_set.proofs.Counted.{uncrowded}
use Rattle.segment_set.proofs.rewriting.check_entries.Goals as goal

pub returns-in-Some-clause-whole : goal.returns-in-Some-clause-whole
returns-in-Some-clause-whole g c = λ next make few.
    let least : IsLeastCrowded c.in-Some.doc (items_of c.args.entries.now) = rw c.in-Some.is at c.in_ok-doc.ensures.some in
    c.fits_docs.ensures.crowded next c.in-Some.doc _ least.crowded make

pub returns-in-None-clause-uncrowded : goal.returns-in-None-clause-uncrowded
returns-in-None-clause-uncrowded g c =
    let sound : NoneTwice (items_of c.args.entries.now) × AreFew (items_of c.args.entries.now) = rw c.in-None.is at c.in_ok-doc.ensures.none in
    uncrowded (items_of c.args.entries.now) sound.0 sound.1
