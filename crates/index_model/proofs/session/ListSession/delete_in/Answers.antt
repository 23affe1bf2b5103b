-- There are no more hits than documents, and a deletion leaves no more than there were.
use Rattle.std.proofs.Common.{◌≡◌, length, ap, arith, ◌∙◌}
use Rattle.point_codec.specs.Points.{in_box}
use Rattle.documents.specs.Documents.{hits}
use Rattle.index_model.proofs.Kept.{still_given, few_hits}
use Rattle.index_model.proofs.session.ListSession.delete_in.Goals as goal

pub overflow_cast-as_slice : goal.overflow_cast-as_slice
overflow_cast-as_slice g c =
    let items = c.as_slice.ensures.value in
    let few = few_hits _ _ _ (in_box c.new.result.bounds) c.self.invariant in
    let same : length c.as_slice-2.result.now ≡ length (hits (in_box c.new.result.bounds) c.self.inside.docs.items) =
    ap length (c.as_slice-2.ensures.value ∙ c.in_ok-hits.ensures.hits ∙ ap (hits (in_box c.new.result.bounds)) items) in
    omega (arith, few)

pub invariant_of-self : goal.invariant_of-self
invariant_of-self g c = rw c.delete_in.ensures (still_given _ _ _ _ c.self.invariant)
