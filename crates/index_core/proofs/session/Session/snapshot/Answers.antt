-- A snapshot is taken, or refused.
use Rattle.std.proofs.Common.{◌++◌, length, Err, ap, ◌∙◌}
use Rattle.std.proofs.lemmas.Result.{err_from_is_err_and}
use Rattle.page_cache.specs.declared.faults.PageFault.{PageFault}
use Rattle.std.proofs.Common.{◌≡◌, Result}
use Rattle.script_lang.specs.Replies.{ok_text}
use Rattle.index_model.specs.declared.session.Applied.{Applied}
use Rattle.index_core.specs.Replies.{snap_answer, text_after}
use Rattle.index_core.proofs.Answering.{applies, applies_is, applies_memory, applies_seen}
use Rattle.index_core.proofs.CalmCalls.{begins_after, calm_snap, cause_snap, whole_snap}
use Rattle.index_core.proofs.SnapshotChanges.{does_snapshot}
use Rattle.segment_set.proofs.Sizes.{set_fits}
use Rattle.std.proofs.Common.{sym, subst}
use Rattle.page_cache.specs.Evidence.{NotDamaged}
use Rattle.page_cache.specs.declared.faults.PageFault.TheVariants as page
use Rattle.index_core.proofs.Showing.{damage_to}
use Rattle.std.proofs.Common.{refl}
use Rattle.index_core.proofs.Keeping.{answer_keeps, err_each, fault_keeps, snap_keeps, still_seen, still_set}
use Rattle.index_core.proofs.Lightly.{light_same, light_snapped}
use Rattle.std.proofs.Common.{◌≡◌, OnErr, OnOk}
use Rattle.index_core.specs.Sessions.{SessionData}
use Rattle.segment_set.specs.Sets.{set_snapped}
use Rattle.index_core.specs.Effects.{OnDone}
use Rattle.index_core.proofs.Arranging.{on_err_any, snap_done, snap_left, undone_any, with_set}
use Rattle.index_core.proofs.session.Session.snapshot.Goals as goal
use Rattle.segment_set.proofs.Doubted.{whole_shows}

pub returns-in_err-put_ok-clause-applies : goal.returns-in_err-put_ok-clause-applies
returns-in_err-put_ok-clause-applies g c files faults =
    let p = err_from_is_err_and c.from_residual.result c.from_residual.ensures.1 in
    applies_memory _ _ _ _ _ _ _ _ _ (p.1 ∙ ap (λ (e : PageFault). Err e) p.2) c.in_err-put_ok.ensures.memory

pub returns-clause-applies : goal.returns-clause-applies
returns-clause-applies g c files faults =
    let grew : c.take_back.new.out.items ≡ text_after (snap_answer c.snapshot.result) (length c.args.out.now.items) (c.args.out.now.items ++ ok_text) =
    c.take_back.ensures ∙ ap (λ (a : Result Applied PageFault). text_after a c.len-before.result c.put_ok.new.out.items) c.snap_answer-answer.ensures
    ∙ ap (λ n. text_after (snap_answer c.snapshot.result) n c.put_ok.new.out.items) (c.len-before.ensures ∙ c.args.out.now.ok.0)
    ∙ ap (text_after (snap_answer c.snapshot.result) (length c.args.out.now.items)) c.in_ok-put_ok.ensures.ok in
    applies_is _ _ _ _ _ _ _ _ c.snap_answer-answer.ensures
    (applies_seen _ _ _ _ _ _ _ _ _ _ _ c.self.view_is
    (applies _ _ _ _ _ _ (calm_snap _ _ _ _ _ _ c.snapshot.result _ _ _ _ _ c.snapshot.ensures.kept c.snapshot.ensures.refused
    (c.snapshot.ensures.faithful files))
    (λ told i seen. does_snapshot _ _ _ _ i _ c.snapshot.result _ _ seen (c.snapshot.ensures.seen files i seen) c.snapshot.ensures.refused
    c.snapshot.ensures.taken c.snapshot.ensures.too_many grew)
    (begins_after (snap_answer c.snapshot.result) _ ok_text _ grew) (cause_snap faults c.snapshot.result) (λ told i seen. whole_snap c.snapshot.result)
    (whole_shows _ _ (whole_snap c.snapshot.result))))

pub snapshot-requires : goal.snapshot-requires
snapshot-requires g c = set_fits g.row.D c.self.invariant.few

pub returns-in_err-put_ok-clause-damage : goal.returns-in_err-put_ok-clause-damage
returns-in_err-put_ok-clause-damage g c =
    let p = err_from_is_err_and c.from_residual.result c.from_residual.ensures.1 in
    damage_to _ _ page.Memory (p.1 ∙ ap (λ (e : PageFault). Err e) p.2) tt

pub returns-clause-damage : goal.returns-clause-damage
returns-clause-damage g c = subst NotDamaged (sym c.snap_answer-answer.ensures) (whole_snap c.snapshot.result)

pub returns-in_err-put_ok-clause-still : goal.returns-in_err-put_ok-clause-still
returns-in_err-put_ok-clause-still g c files =
    let p = err_from_is_err_and c.from_residual.result c.from_residual.ensures.1 in
    fault_keeps _ _ _ (p.1 ∙ ap (λ (e : PageFault). Err e) p.2)

pub returns-clause-still : goal.returns-clause-still
returns-clause-still g c files = answer_keeps _ _ _ c.snap_answer-answer.ensures (snap_keeps _ c.snapshot.result
    (err_each (λ same. still_seen _ _ _ _ _ _ c.self.view_is (record { set = still_set _ _ same; commit = refl; refused = refl; files = λ told. refl }))
    c.snapshot.result c.snapshot.ensures.refused))

pub returns-in_err-put_ok-clause-light : goal.returns-in_err-put_ok-clause-light
returns-in_err-put_ok-clause-light g c files = light_same _ _ _ _

pub returns-clause-light : goal.returns-clause-light
returns-clause-light g c files = light_snapped _ _ _ _ _ c.snapshot.result c.self.view_is c.snapshot.ensures.kept c.snapshot.ensures.refused

pub returns-in_err-put_ok-clause-left : goal.returns-in_err-put_ok-clause-left
returns-in_err-put_ok-clause-left g c = on_err_any _ c.from_residual.result refl

pub returns-in_err-put_ok-clause-leaves : goal.returns-in_err-put_ok-clause-leaves
returns-in_err-put_ok-clause-leaves g c =
    let p = err_from_is_err_and c.from_residual.result c.from_residual.ensures.1 in
    undone_any _ _ _ (p.1 ∙ ap (λ (e : PageFault). Err e) p.2)

pub returns-clause-left : goal.returns-clause-left
returns-clause-left g c =
    subst (λ r. OnErr r (with_set c.self.inside.commit c.self.inside.refused c.snapshot.new.self ≡ c.args.self.now)) (sym c.snap_answer-answer.ensures)
    (snap_left _ _ c.snapshot.result (λ same. ap (with_set c.self.inside.commit c.self.inside.refused) same ∙ c.self.view_is) c.snapshot.ensures.refused)

pub returns-clause-leaves : goal.returns-clause-leaves
returns-clause-leaves g c =
    subst (λ r. OnDone r (c.snapshot.new.self ≡ set_snapped c.args.name.now c.args.self.now.set)) (sym c.snap_answer-answer.ensures)
    (snap_done _ c.snapshot.result
    (subst (λ (u : SessionData). OnOk c.snapshot.result (c.snapshot.new.self ≡ set_snapped c.args.name.now u.set)) c.self.view_is c.snapshot.ensures.kept))
