-- What the view shows is found.
use Rattle.std.proofs.Common.{◌++◌, Err, sym, ap, subst, ◌∙◌}
use Rattle.std.proofs.lemmas.Result.{err_from_is_err_and}
use Rattle.page_cache.specs.declared.faults.PageFault.{PageFault}
use Rattle.std.proofs.Common.{map}
use Rattle.std.proofs.lemmas.Bool.{both_ways}
use Rattle.script_lang.specs.Seen.{view_name}
use Rattle.script_lang.specs.declared.faults.Refusal.TheVariants as why
use Rattle.segment_set.specs.Sets.{HasView}
use Rattle.index_core.specs.Sessions.{SessionData}
use Rattle.index_core.proofs.Answering.{applies_done, applies_fault, applies_refused, applies_seen, applies_unsaid, begins_itself}
use Rattle.index_core.proofs.CalmCalls.{calm_cache}
use Rattle.index_core.proofs.Changing.{does_answered, does_unknown, view_docs}
use Rattle.script_lang.specs.Replies.{found_of, near_text}
use Rattle.index_model.specs.Step.{step_on}
use Rattle.index_model.proofs.Kept.{numbers_first}
use Rattle.segment_set.proofs.Sizes.{point_fits, set_fits}
use Rattle.std.proofs.Common.{IsTrue, arith}
use Rattle.page_cache.specs.declared.faults.PageFault.TheVariants as page
use Rattle.segment_set.specs.Sets.{viewed_parts}
use Rattle.index_core.specs.Costs.{ReadsNear}
use Rattle.index_core.specs.Damages.{ShowsLeaf}
use Rattle.index_core.proofs.Showing.{damage_to, leaf_none, leaf_to}
use Rattle.std.proofs.Common.{refl}
use Rattle.index_core.proofs.Keeping.{still_same, still_seen}
use Rattle.index_core.proofs.Keeping.{fault_keeps}
use Rattle.index_core.proofs.Carrying.{view_shows}
use Rattle.index_core.proofs.session.Session.nearest.Goals as goal

pub nearest-requires : goal.nearest-requires
nearest-requires g c =
    let dims = c.self.invariant.few in (
      set_fits g.row.D dims,
      (
        point_fits g.row.D dims,
        (
          subst (λ (u : SessionData). HasView (view_name c.args.view.now) u.set) (sym c.self.view_is) (c.has_view.ensures.0 c.if-not-has_view.false),
          (c.requires.some, c.requires.few),
        ),
      ),
    )

pub returns-then-not-has_view-clause-applies : goal.returns-then-not-has_view-clause-applies
unfolding step_on
returns-then-not-has_view-clause-applies g c = applies_refused _ _ _ _ _ _ _ why.UnknownSnapshot
    (λ i seen. does_unknown _ _ _ i (view_name c.args.view.now) _ _ seen (λ has. both_ways c.has_view.result c.if-not-has_view.true (c.has_view.ensures.1 has)))

pub returns-in_err-found-clause-applies : goal.returns-in_err-found-clause-applies
returns-in_err-found-clause-applies g c =
    let p = err_from_is_err_and c.from_residual.result c.from_residual.ensures.1 in
    applies_seen _ _ _ _ _ _ _ _ _ _ _ c.self.view_is
    (applies_fault _ _ _ _ _ _ c.in_err-found.field-0.0
    (calm_cache _ _ _ _ _ _ _ _ _ _ _ _ c.nearest.ensures.rest c.nearest.ensures.files c.nearest.ensures.faithful)
    (p.1 ∙ ap (λ (e : PageFault). Err e) p.2) c.nearest.ensures.seen (begins_itself _) c.in_err-found.ensures.cause c.in_err-found.ensures.damaged.whole
    (view_shows {X = Unit {0}} _ _ _ _ (view_name c.args.view.now) c.self.inside.set (Err c.in_err-found.field-0.0) (λ t. t)
    (λ t. c.nearest.ensures.files t.0) c.in_err-found.ensures.damaged.evident))

pub returns-in_err-put_near-clause-applies : goal.returns-in_err-put_near-clause-applies
returns-in_err-put_near-clause-applies g c =
    let p = err_from_is_err_and c.from_residual-in_err-put_near.result c.from_residual-in_err-put_near.ensures.1 in
    applies_seen _ _ _ _ _ _ _ _ _ _ _ c.self.view_is
    (applies_unsaid _ _ _ _ _ _ c.in_ok-found.found
    (calm_cache _ _ _ _ _ _ _ _ _ _ _ _ c.nearest.ensures.rest c.nearest.ensures.files c.nearest.ensures.faithful)
    (p.1 ∙ ap (λ (e : PageFault). Err e) p.2) c.nearest.ensures.seen c.in_err-put_near.ensures.memory c.in_ok-found.ensures.cause)

pub returns-clause-applies : goal.returns-clause-applies
unfolding step_on
returns-clause-applies g c = applies_seen _ _ _ _ _ _ _ _ _ _ _ c.self.view_is
    (applies_done _ _ _ _ _ c.in_ok-found.found
    _ (calm_cache _ _ _ _ _ _ _ _ _ _ _ _ c.nearest.ensures.rest c.nearest.ensures.files c.nearest.ensures.faithful)
    (λ told i seen.
    let has = (subst (λ (u : SessionData). HasView (view_name c.args.view.now) u.set) (sym c.self.view_is) (c.has_view.ensures.0 c.if-not-has_view.false)) in
    let docs = view_docs _ _ _ i (view_name c.args.view.now) seen has in
    does_answered _ _ _ i (view_name c.args.view.now) docs.0 _ _ _ docs.1 (c.nearest.ensures.seen told i seen)
    (c.in_ok-put_near.ensures.ok ∙ ap (λ xs. c.args.out.now.items ++ near_text xs)
    (ap found_of c.as_slice.ensures.value ∙ sym (numbers_first c.in_ok-found.found.docs.items)
    ∙ ap (map (λ found. (found.1, found.0))) (c.in_ok-found.ensures.found told i seen docs.0 docs.1))))
    c.in_ok-put_near.ensures.ok c.in_ok-found.ensures.cause)

pub returns-then-not-has_view-clause-reads : goal.returns-then-not-has_view-clause-reads
returns-then-not-has_view-clause-reads g c told contents stands near is leaves near_leaves = omega arith

pub returns-in_err-found-clause-reads : goal.returns-in_err-found-clause-reads
returns-in_err-found-clause-reads g c told =
    subst (λ (u : SessionData).
    ReadsNear g.row.D (g.F.Pages.files c.args.folder.now) (view_name c.args.view.now) c.args.k c.args.at.now.c u.set (g.F.Pages.reads c.args.folder.now)
    (g.F.Pages.reads c.nearest.new.folder)) c.self.view_is (c.nearest.ensures.reads told)

pub returns-in_err-put_near-clause-reads : goal.returns-in_err-put_near-clause-reads
returns-in_err-put_near-clause-reads g c told =
    subst (λ (u : SessionData).
    ReadsNear g.row.D (g.F.Pages.files c.args.folder.now) (view_name c.args.view.now) c.args.k c.args.at.now.c u.set (g.F.Pages.reads c.args.folder.now)
    (g.F.Pages.reads c.nearest.new.folder)) c.self.view_is (c.nearest.ensures.reads told)

pub returns-clause-reads : goal.returns-clause-reads
returns-clause-reads g c told =
    subst (λ (u : SessionData).
    ReadsNear g.row.D (g.F.Pages.files c.args.folder.now) (view_name c.args.view.now) c.args.k c.args.at.now.c u.set (g.F.Pages.reads c.args.folder.now)
    (g.F.Pages.reads c.nearest.new.folder)) c.self.view_is (c.nearest.ensures.reads told)

pub returns-then-not-has_view-clause-damage : goal.returns-then-not-has_view-clause-damage
returns-then-not-has_view-clause-damage g c = leaf_none _ _ _ _ _ _ tt

pub returns-in_err-found-clause-damage : goal.returns-in_err-found-clause-damage
returns-in_err-found-clause-damage g c =
    let p = err_from_is_err_and c.from_residual.result c.from_residual.ensures.1 in
    subst (λ (u : SessionData).
    ShowsLeaf g.row.D (IsTrue g.F.Pages.told) (g.F.Pages.files c.args.folder.now) u.set (viewed_parts (view_name c.args.view.now) u.set) c.from_residual.result)
    c.self.view_is
    (leaf_to {T = Unit {0}} _ _ _ _ _ _ c.in_err-found.field-0.0 (p.1 ∙ ap (λ (e : PageFault). Err e) p.2)
    (record { shown = c.in_err-found.ensures.damaged.shown; damage = c.in_err-found.ensures.damaged.damage }))

pub returns-in_err-put_near-clause-damage : goal.returns-in_err-put_near-clause-damage
returns-in_err-put_near-clause-damage g c =
    let p = err_from_is_err_and c.from_residual-in_err-put_near.result c.from_residual-in_err-put_near.ensures.1 in
    leaf_none _ _ _ _ _ _ (damage_to _ _ page.Memory (p.1 ∙ ap (λ (e : PageFault). Err e) p.2) tt)

pub returns-clause-damage : goal.returns-clause-damage
returns-clause-damage g c = leaf_none _ _ _ _ _ _ tt

pub returns-then-not-has_view-clause-still : goal.returns-then-not-has_view-clause-still
returns-then-not-has_view-clause-still g c = still_same _ _ _

pub returns-in_err-found-clause-still : goal.returns-in_err-found-clause-still
returns-in_err-found-clause-still g c =
    still_seen _ _ _ _ _ _ c.self.view_is (record { set = c.nearest.ensures.rest; commit = refl; refused = refl; files = c.nearest.ensures.files })

pub returns-in_err-put_near-clause-still : goal.returns-in_err-put_near-clause-still
returns-in_err-put_near-clause-still g c =
    still_seen _ _ _ _ _ _ c.self.view_is (record { set = c.nearest.ensures.rest; commit = refl; refused = refl; files = c.nearest.ensures.files })

pub returns-clause-still : goal.returns-clause-still
returns-clause-still g c =
    still_seen _ _ _ _ _ _ c.self.view_is (record { set = c.nearest.ensures.rest; commit = refl; refused = refl; files = c.nearest.ensures.files })

pub returns-then-not-has_view-clause-unread : goal.returns-then-not-has_view-clause-unread
returns-then-not-has_view-clause-unread g c = refl

pub returns-in_err-found-clause-unread : goal.returns-in_err-found-clause-unread
returns-in_err-found-clause-unread g c =
    let p = err_from_is_err_and c.from_residual.result c.from_residual.ensures.1 in
    fault_keeps _ _ _ (p.1 ∙ ap (λ (e : PageFault). Err e) p.2)

pub returns-in_err-put_near-clause-unread : goal.returns-in_err-put_near-clause-unread
returns-in_err-put_near-clause-unread g c =
    let p = err_from_is_err_and c.from_residual-in_err-put_near.result c.from_residual-in_err-put_near.ensures.1 in
    fault_keeps _ _ _ (p.1 ∙ ap (λ (e : PageFault). Err e) p.2)

pub returns-clause-unread : goal.returns-clause-unread
returns-clause-unread g c = tt
