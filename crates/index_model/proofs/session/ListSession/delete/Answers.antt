-- A deletion leaves no more documents than there were.
use Rattle.index_model.proofs.Kept.{still_given}
use Rattle.index_model.proofs.session.ListSession.delete.Goals as goal

pub invariant_of-self : goal.invariant_of-self
invariant_of-self g c = rw c.delete.ensures (still_given _ _ _ _ c.self.invariant)
