-- What is live is found.
use Rattle.std.proofs.Common.{IfOk, refl, sym, subst}
use Rattle.nearest_query.specs.Segments.{AreNearLeaves, bound_of}
use Rattle.segment_view.specs.LiveSegments.{heads_of}
use Rattle.segment_set.specs.Seen.{Sees}
use Rattle.segment_set.specs.Kept.{StaysButCache}
use Rattle.segment_set.proofs.Sizes.{point_fits, set_fits}
use Rattle.index_core.specs.Sessions.{SessionData}
use Rattle.index_core.proofs.Calming.{evident_seen, faithful_seen, guards_cache}
use Rattle.index_core.proofs.session.Session.nearest_to.Goals as goal

pub nearest-requires : goal.nearest-requires
nearest-requires g c = let dims = c.self.invariant.few in (set_fits g.row.D dims, (point_fits g.row.D dims, (tt, (c.requires.some, c.requires.few))))

pub returns-clause-found : goal.returns-clause-found
returns-clause-found g c told i seen =
    c.nearest.ensures.found told i (subst (λ (u : SessionData). Sees g.row.D (g.F.Pages.files c.args.folder.now) u.set i) (sym c.self.view_is) seen) i.docs refl

pub returns-clause-touches : goal.returns-clause-touches
returns-clause-touches g c told i seen =
    subst (λ (u : SessionData).
    IfOk c.nearest.result (λ v. AreNearLeaves g.row.D c.args.at.now.c (bound_of c.args.k v.docs.items) (heads_of u.set.parts) v.touched)) c.self.view_is
    (c.nearest.ensures.touches told i (subst (λ (u : SessionData). Sees g.row.D (g.F.Pages.files c.args.folder.now) u.set i) (sym c.self.view_is) seen))

pub returns-clause-seen : goal.returns-clause-seen
returns-clause-seen g c told i seen =
    c.nearest.ensures.seen told i (subst (λ (u : SessionData). Sees g.row.D (g.F.Pages.files c.args.folder.now) u.set i) (sym c.self.view_is) seen)

pub returns-clause-guards : goal.returns-clause-guards
returns-clause-guards g c told guards = guards_cache g.row.D _ _ _ _ _ _ c.self.view_is told c.nearest.ensures.rest c.nearest.ensures.files guards

pub returns-clause-rest : goal.returns-clause-rest
returns-clause-rest g c = subst (λ (u : SessionData). StaysButCache u.set c.nearest.new.self) c.self.view_is c.nearest.ensures.rest

pub returns-clause-whole : goal.returns-clause-whole
returns-clause-whole g c told i seen =
    c.nearest.ensures.damaged.whole told i (subst (λ (u : SessionData). Sees g.row.D (g.F.Pages.files c.args.folder.now) u.set i) (sym c.self.view_is) seen)

pub returns-clause-faithful : goal.returns-clause-faithful
returns-clause-faithful g c told = faithful_seen g.row.D _ _ _ _ _ c.self.view_is (c.nearest.ensures.faithful told)

pub returns-clause-evident : goal.returns-clause-evident
returns-clause-evident g c = evident_seen g.row.D _ _ _ _ _ _ c.self.view_is c.nearest.ensures.damaged.evident
