-- What the view shows is found.
use Rattle.std.proofs.Common.{◌++◌, Err, sym, ap, subst, ◌∙◌}
use Rattle.std.proofs.lemmas.Result.{err_from_is_err_and}
use Rattle.page_cache.specs.declared.faults.PageFault.{PageFault}
use Rattle.std.proofs.lemmas.Bool.{both_ways}
use Rattle.script_lang.specs.Seen.{view_name}
use Rattle.script_lang.specs.declared.faults.Refusal.TheVariants as why
use Rattle.segment_set.specs.Sets.{HasView}
use Rattle.index_core.specs.Sessions.{SessionData}
use Rattle.index_core.proofs.Answering.{applies_done, applies_fault, applies_refused, applies_seen, applies_unsaid, begins_itself}
use Rattle.index_core.proofs.CalmCalls.{calm_cache}
use Rattle.index_core.proofs.Changing.{does_answered, does_unknown, view_docs}
use Rattle.script_lang.specs.Replies.{hits_text}
use Rattle.segment_set.proofs.Sizes.{set_fits}
use Rattle.std.proofs.Common.{IsTrue, arith}
use Rattle.page_cache.specs.declared.faults.PageFault.TheVariants as page
use Rattle.segment_set.specs.Sets.{viewed_parts}
use Rattle.index_core.specs.Costs.{ReadsTouched}
use Rattle.index_core.specs.Damages.{ShowsLeaf}
use Rattle.index_core.proofs.Showing.{damage_to, leaf_none, leaf_to}
use Rattle.std.proofs.Common.{refl}
use Rattle.index_core.proofs.Keeping.{still_same, still_seen}
use Rattle.index_core.proofs.Keeping.{fault_keeps}
use Rattle.index_core.proofs.Carrying.{view_shows}
use Rattle.index_core.proofs.session.Session.find.Goals as goal

pub visit-requires : goal.visit-requires
visit-requires g c = (
  set_fits g.row.D c.self.invariant.few,
  subst (λ (u : SessionData). HasView (view_name c.args.view.now) u.set) (sym c.self.view_is) (c.has_view.ensures.0 c.if-not-has_view.false),
)

pub returns-then-not-has_view-clause-applies : goal.returns-then-not-has_view-clause-applies
returns-then-not-has_view-clause-applies g c = applies_refused _ _ _ _ _ _ _ why.UnknownSnapshot
    (λ i seen. does_unknown _ _ _ i (view_name c.args.view.now) _ _ seen (λ has. both_ways c.has_view.result c.if-not-has_view.true (c.has_view.ensures.1 has)))

pub returns-in_err-hits-clause-applies : goal.returns-in_err-hits-clause-applies
returns-in_err-hits-clause-applies g c =
    let p = err_from_is_err_and c.from_residual.result c.from_residual.ensures.1 in
    applies_seen _ _ _ _ _ _ _ _ _ _ _ c.self.view_is
    (applies_fault _ _ _ _ _ _ c.in_err-hits.field-0.0 (calm_cache _ _ _ _ _ _ _ _ _ _ _ _ c.visit.ensures.rest c.visit.ensures.files c.visit.ensures.faithful)
    (p.1 ∙ ap (λ (e : PageFault). Err e) p.2) c.visit.ensures.seen (begins_itself _) c.in_err-hits.ensures.cause c.in_err-hits.ensures.damaged.whole
    (view_shows {X = Unit {0}} _ _ _ _ (view_name c.args.view.now) c.self.inside.set (Err c.in_err-hits.field-0.0) (λ t. t) (λ t. c.visit.ensures.files t.0)
    c.in_err-hits.ensures.damaged.evident))

pub returns-in_err-put_hits-clause-applies : goal.returns-in_err-put_hits-clause-applies
returns-in_err-put_hits-clause-applies g c =
    let p = err_from_is_err_and c.from_residual-in_err-put_hits.result c.from_residual-in_err-put_hits.ensures.1 in
    applies_seen _ _ _ _ _ _ _ _ _ _ _ c.self.view_is
    (applies_unsaid _ _ _ _ _ _ c.in_ok-hits.hits (calm_cache _ _ _ _ _ _ _ _ _ _ _ _ c.visit.ensures.rest c.visit.ensures.files c.visit.ensures.faithful)
    (p.1 ∙ ap (λ (e : PageFault). Err e) p.2) c.visit.ensures.seen c.in_err-put_hits.ensures.memory c.in_ok-hits.ensures.cause)

pub returns-clause-applies : goal.returns-clause-applies
returns-clause-applies g c = applies_seen _ _ _ _ _ _ _ _ _ _ _ c.self.view_is
    (applies_done _ _ _ _ _ c.in_ok-hits.hits _ (calm_cache _ _ _ _ _ _ _ _ _ _ _ _ c.visit.ensures.rest c.visit.ensures.files c.visit.ensures.faithful)
    (λ told i seen.
    let has = (subst (λ (u : SessionData). HasView (view_name c.args.view.now) u.set) (sym c.self.view_is) (c.has_view.ensures.0 c.if-not-has_view.false)) in
    let docs = view_docs _ _ _ i (view_name c.args.view.now) seen has in
    does_answered _ _ _ i (view_name c.args.view.now) docs.0 _ _ _ docs.1 (c.visit.ensures.seen told i seen)
    (c.in_ok-put_hits.ensures.ok
    ∙ ap (λ ns. c.args.out.now.items ++ hits_text ns) (c.as_slice.ensures.value ∙ c.in_ok-hits.ensures.found told i seen docs.0 docs.1)))
    c.in_ok-put_hits.ensures.ok c.in_ok-hits.ensures.cause)

pub returns-then-not-has_view-clause-reads : goal.returns-then-not-has_view-clause-reads
returns-then-not-has_view-clause-reads g c n touched = omega arith

pub returns-in_err-hits-clause-reads : goal.returns-in_err-hits-clause-reads
returns-in_err-hits-clause-reads g c =
    subst (λ (u : SessionData).
    ReadsTouched g.row.D (g.S.Shape.has c.args.shape.now) (g.S.Shape.crosses c.args.shape.now) (viewed_parts (view_name c.args.view.now) u.set)
    (g.F.Pages.reads c.args.folder.now) (g.F.Pages.reads c.visit.new.folder)) c.self.view_is c.visit.ensures.reads

pub returns-in_err-put_hits-clause-reads : goal.returns-in_err-put_hits-clause-reads
returns-in_err-put_hits-clause-reads g c =
    subst (λ (u : SessionData).
    ReadsTouched g.row.D (g.S.Shape.has c.args.shape.now) (g.S.Shape.crosses c.args.shape.now) (viewed_parts (view_name c.args.view.now) u.set)
    (g.F.Pages.reads c.args.folder.now) (g.F.Pages.reads c.visit.new.folder)) c.self.view_is c.visit.ensures.reads

pub returns-clause-reads : goal.returns-clause-reads
returns-clause-reads g c =
    subst (λ (u : SessionData).
    ReadsTouched g.row.D (g.S.Shape.has c.args.shape.now) (g.S.Shape.crosses c.args.shape.now) (viewed_parts (view_name c.args.view.now) u.set)
    (g.F.Pages.reads c.args.folder.now) (g.F.Pages.reads c.visit.new.folder)) c.self.view_is c.visit.ensures.reads

pub returns-then-not-has_view-clause-damage : goal.returns-then-not-has_view-clause-damage
returns-then-not-has_view-clause-damage g c = leaf_none _ _ _ _ _ _ tt

pub returns-in_err-hits-clause-damage : goal.returns-in_err-hits-clause-damage
returns-in_err-hits-clause-damage g c =
    let p = err_from_is_err_and c.from_residual.result c.from_residual.ensures.1 in
    subst (λ (u : SessionData).
    ShowsLeaf g.row.D (IsTrue g.F.Pages.told) (g.F.Pages.files c.args.folder.now) u.set (viewed_parts (view_name c.args.view.now) u.set) c.from_residual.result)
    c.self.view_is
    (leaf_to {T = Unit {0}} _ _ _ _ _ _ c.in_err-hits.field-0.0 (p.1 ∙ ap (λ (e : PageFault). Err e) p.2)
    (record { shown = c.in_err-hits.ensures.damaged.shown; damage = c.in_err-hits.ensures.damaged.damage }))

pub returns-in_err-put_hits-clause-damage : goal.returns-in_err-put_hits-clause-damage
returns-in_err-put_hits-clause-damage g c =
    let p = err_from_is_err_and c.from_residual-in_err-put_hits.result c.from_residual-in_err-put_hits.ensures.1 in
    leaf_none _ _ _ _ _ _ (damage_to _ _ page.Memory (p.1 ∙ ap (λ (e : PageFault). Err e) p.2) tt)

pub returns-clause-damage : goal.returns-clause-damage
returns-clause-damage g c = leaf_none _ _ _ _ _ _ tt

pub returns-then-not-has_view-clause-still : goal.returns-then-not-has_view-clause-still
returns-then-not-has_view-clause-still g c = still_same _ _ _

pub returns-in_err-hits-clause-still : goal.returns-in_err-hits-clause-still
returns-in_err-hits-clause-still g c =
    still_seen _ _ _ _ _ _ c.self.view_is (record { set = c.visit.ensures.rest; commit = refl; refused = refl; files = c.visit.ensures.files })

pub returns-in_err-put_hits-clause-still : goal.returns-in_err-put_hits-clause-still
returns-in_err-put_hits-clause-still g c =
    still_seen _ _ _ _ _ _ c.self.view_is (record { set = c.visit.ensures.rest; commit = refl; refused = refl; files = c.visit.ensures.files })

pub returns-clause-still : goal.returns-clause-still
returns-clause-still g c =
    still_seen _ _ _ _ _ _ c.self.view_is (record { set = c.visit.ensures.rest; commit = refl; refused = refl; files = c.visit.ensures.files })

pub returns-then-not-has_view-clause-unread : goal.returns-then-not-has_view-clause-unread
returns-then-not-has_view-clause-unread g c = refl

pub returns-in_err-hits-clause-unread : goal.returns-in_err-hits-clause-unread
returns-in_err-hits-clause-unread g c =
    let p = err_from_is_err_and c.from_residual.result c.from_residual.ensures.1 in
    fault_keeps _ _ _ (p.1 ∙ ap (λ (e : PageFault). Err e) p.2)

pub returns-in_err-put_hits-clause-unread : goal.returns-in_err-put_hits-clause-unread
returns-in_err-put_hits-clause-unread g c =
    let p = err_from_is_err_and c.from_residual-in_err-put_hits.result c.from_residual-in_err-put_hits.ensures.1 in
    fault_keeps _ _ _ (p.1 ∙ ap (λ (e : PageFault). Err e) p.2)

pub returns-clause-unread : goal.returns-clause-unread
returns-clause-unread g c = tt
