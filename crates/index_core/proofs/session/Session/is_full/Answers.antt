-- What the set says of its size.
use Rattle.std.proofs.Common.{subst}
use Rattle.segment_set.specs.Sets.{IsWell}
use Rattle.segment_set.proofs.Sizes.{set_fits}
use Rattle.index_core.specs.Sessions.{SessionData}
use Rattle.index_core.proofs.session.Session.is_full.Goals as goal

pub leaf_size-leaf_size-requires : goal.leaf_size-leaf_size-requires
leaf_size-leaf_size-requires g c = set_fits g.row.D c.self.invariant.few

pub points_given-requires : goal.points_given-requires
points_given-requires g c = set_fits g.row.D c.self.invariant.few

pub returns-clause-well : goal.returns-clause-well
returns-clause-well g c = subst (λ (u : SessionData). IsWell g.row.D u.set) c.self.view_is c.leaf_size-leaf_size.ensures.well
