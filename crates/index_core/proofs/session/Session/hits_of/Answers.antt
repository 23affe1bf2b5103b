-- What is live is found.
use Rattle.std.proofs.Common.{IfOk, refl, sym, subst}
use Rattle.segment_view.specs.LiveSegments.{heads_of}
use Rattle.segment_view.specs.Costs.{IsCostOf}
use Rattle.segment_set.specs.Seen.{Sees}
use Rattle.segment_set.specs.Kept.{StaysButCache}
use Rattle.segment_set.proofs.Sizes.{set_fits}
use Rattle.index_core.specs.Sessions.{SessionData}
use Rattle.index_core.proofs.Calming.{evident_seen, faithful_seen, guards_cache}
use Rattle.index_core.proofs.session.Session.hits_of.Goals as goal

pub visit-requires : goal.visit-requires
visit-requires g c = (set_fits g.row.D c.self.invariant.few, tt)

pub returns-clause-found : goal.returns-clause-found
returns-clause-found g c told i seen =
    c.visit.ensures.found told i (subst (λ (u : SessionData). Sees g.row.D (g.F.Pages.files c.args.folder.now) u.set i) (sym c.self.view_is) seen) i.docs refl

pub returns-clause-counts : goal.returns-clause-counts
returns-clause-counts g c =
    subst (λ (u : SessionData).
    IfOk c.visit.result (λ v. IsCostOf g.row.D (g.S.Shape.has c.args.shape.now) (g.S.Shape.crosses c.args.shape.now) (heads_of u.set.parts) v.cost))
    c.self.view_is c.visit.ensures.counts

pub returns-clause-seen : goal.returns-clause-seen
returns-clause-seen g c told i seen =
    c.visit.ensures.seen told i (subst (λ (u : SessionData). Sees g.row.D (g.F.Pages.files c.args.folder.now) u.set i) (sym c.self.view_is) seen)

pub returns-clause-guards : goal.returns-clause-guards
returns-clause-guards g c told guards = guards_cache g.row.D _ _ _ _ _ _ c.self.view_is told c.visit.ensures.rest c.visit.ensures.files guards

pub returns-clause-rest : goal.returns-clause-rest
returns-clause-rest g c = subst (λ (u : SessionData). StaysButCache u.set c.visit.new.self) c.self.view_is c.visit.ensures.rest

pub returns-clause-whole : goal.returns-clause-whole
returns-clause-whole g c told i seen =
    c.visit.ensures.damaged.whole told i (subst (λ (u : SessionData). Sees g.row.D (g.F.Pages.files c.args.folder.now) u.set i) (sym c.self.view_is) seen)

pub returns-clause-faithful : goal.returns-clause-faithful
returns-clause-faithful g c told = faithful_seen g.row.D _ _ _ _ _ c.self.view_is (c.visit.ensures.faithful told)

pub returns-clause-evident : goal.returns-clause-evident
returns-clause-evident g c = evident_seen g.row.D _ _ _ _ _ _ c.self.view_is c.visit.ensures.damaged.evident
