-- What the set says of its numbers.
use Rattle.std.proofs.Common.{◌≤◌, subst}
use Rattle.index_core.specs.Sessions.{SessionData}
use Rattle.segment_set.proofs.Sizes.{set_fits}
use Rattle.index_core.proofs.session.Session.next.Goals as goal

pub leaf_size-leaf_size-requires : goal.leaf_size-leaf_size-requires
leaf_size-leaf_size-requires g c = set_fits g.row.D c.self.invariant.few

pub next-requires : goal.next-requires
next-requires g c = set_fits g.row.D c.self.invariant.few

pub returns-clause-most : goal.returns-clause-most
returns-clause-most g c = subst (λ (u : SessionData). u.set.next ≤ u.set.points_given) c.self.view_is c.leaf_size-leaf_size.ensures.well.numbered
