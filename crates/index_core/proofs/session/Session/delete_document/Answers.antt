-- What the set says of a deletion holds of the session, of which nothing but the set changes.
use Rattle.std.proofs.Common.{sym, ap, subst, ◌∙◌}
use Rattle.segment_set.specs.Sets.{SetData, set_but}
use Rattle.segment_set.specs.Seen.{Sees}
use Rattle.segment_set.proofs.Sizes.{set_fits}
use Rattle.segment_view.specs.LiveSegments.{cleared_parts}
use Rattle.index_core.specs.Sessions.{SessionData}
use Rattle.index_core.proofs.Calming.{faithful_seen, guards_same}
use Rattle.index_core.proofs.Bringing.{brings_cleared}
use Rattle.index_core.proofs.Tracing.{traced_cleared}
use Rattle.index_core.proofs.Guarding.{grows_same}
use Rattle.index_core.proofs.session.Session.delete_document.Goals as goal

pub delete-requires : goal.delete-requires
delete-requires g c = set_fits g.row.D c.self.invariant.few

pub returns-clause-seen : goal.returns-clause-seen
returns-clause-seen g c files i seen = c.delete.ensures.seen files i (subst (λ (u : SessionData). Sees g.row.D files u.set i) (sym c.self.view_is) seen)

pub returns-clause-live : goal.returns-clause-live
returns-clause-live g c files i seen = c.delete.ensures.live files i (subst (λ (u : SessionData). Sees g.row.D files u.set i) (sym c.self.view_is) seen)

pub returns-clause-canon : goal.returns-clause-canon
returns-clause-canon g c files =
    brings_cleared g.row.D files c.args.doc
    _ _ (ap (λ (u : SetData). u.parts) c.delete.ensures.rest ∙ ap (λ (u : SessionData). cleared_parts c.args.doc u.set.parts) c.self.view_is)

pub returns-clause-guards : goal.returns-clause-guards
returns-clause-guards g c files guards =
    guards_same g.row.D files _ _ _ c.self.view_is (ap (λ (u : SetData). u.names) c.delete.ensures.rest)
    (grows_same _ _ (ap (λ (u : SetData). u.leaf_size) c.delete.ensures.rest) (ap (λ (u : SetData). u.next) c.delete.ensures.rest)
    (ap (λ (u : SetData). u.points_given) c.delete.ensures.rest))
    c.delete.ensures.follows guards

pub returns-clause-faithful : goal.returns-clause-faithful
returns-clause-faithful g c files = faithful_seen g.row.D files files _ _ _ c.self.view_is (c.delete.ensures.faithful files)

pub returns-clause-traced : goal.returns-clause-traced
returns-clause-traced g c files =
    traced_cleared g.row.D files c.args.doc _ _ (c.delete.ensures.rest ∙ ap (λ (u : SessionData). set_but c.args.doc u.set) c.self.view_is)
