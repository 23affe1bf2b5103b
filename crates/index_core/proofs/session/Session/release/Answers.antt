-- A snapshot goes, where one has the name.
use Rattle.std.proofs.Common.{◌≡◌, not, Err, refl, sym, ap, ◌∙◌}
use Rattle.std.proofs.lemmas.Result.{err_from_is_err_and}
use Rattle.page_cache.specs.declared.faults.PageFault.{PageFault}
use Rattle.script_lang.specs.declared.faults.Refusal.TheVariants as why
use Rattle.index_model.specs.declared.session.Applied.TheVariants as applied
use Rattle.std.specs.Str.{bytes_eq}
use Rattle.segment_set.specs.Sets.{NamedView, SetData}
use Rattle.segment_set.proofs.Carried.{follows_same}
use Rattle.segment_set.proofs.Counts.{counts_same}
use Rattle.index_core.proofs.Answering.{applies, applies_memory, applies_refused, applies_seen, begins_with, no_cause}
use Rattle.index_core.proofs.CalmCalls.{calm_like}
use Rattle.index_core.proofs.SnapshotChanges.{does_release, does_unnamed}
use Rattle.segment_set.proofs.Sizes.{set_fits}
use Rattle.index_core.specs.Sessions.{SessionData}
use Rattle.segment_set.specs.Sets.{has_name}
use Rattle.index_core.proofs.Bringing.{brings_same}
use Rattle.page_cache.specs.declared.faults.PageFault.TheVariants as page
use Rattle.index_core.proofs.Showing.{damage_to}
use Rattle.index_core.proofs.Keeping.{fault_keeps, still_same}
use Rattle.index_core.proofs.Lightly.{light_released, light_same}
use Rattle.index_core.proofs.Guarding.{grows_same}
use Rattle.std.proofs.Common.{subst}
use Rattle.segment_set.specs.Sets.{set_released}
use Rattle.index_core.proofs.Arranging.{on_err_any, undone_any}
use Rattle.index_core.proofs.Carrying.{views_fewer}
use Rattle.index_core.proofs.session.Session.release.Goals as goal

pub returns-then-not-has_snapshot-clause-applies : goal.returns-then-not-has_snapshot-clause-applies
returns-then-not-has_snapshot-clause-applies g c files faults = applies_refused _ _ _ _ _ _ _ why.UnknownSnapshot
    (λ i seen. does_unnamed _ _ _ i _ _ seen
    (ap (λ (u : SessionData). has_name c.args.name.now u.set.snapshots) (sym c.self.view_is) ∙ sym c.has_snapshot.ensures ∙ c.if-not-has_snapshot.true))

pub returns-in_err-put_ok-clause-applies : goal.returns-in_err-put_ok-clause-applies
returns-in_err-put_ok-clause-applies g c files faults =
    let p = err_from_is_err_and c.from_residual.result c.from_residual.ensures.1 in
    applies_memory _ _ _ _ _ _ _ _ _ (p.1 ∙ ap (λ (e : PageFault). Err e) p.2) c.in_err-put_ok.ensures.memory

pub returns-clause-applies : goal.returns-clause-applies
returns-clause-applies g c files faults = applies_seen _ _ _ _ _ _ _ _ _ _ _ c.self.view_is
    (applies _ _ _ _ _ _
    (calm_like _ _ _ _ _ _ _ _ _ _ _ _ (ap (λ (u : SetData). u.names) c.release.ensures.kept)
    (grows_same _ _ (ap (λ (u : SetData). u.leaf_size) c.release.ensures.kept) (ap (λ (u : SetData). u.next) c.release.ensures.kept)
    (ap (λ (u : SetData). u.points_given) c.release.ensures.kept))
    (follows_same _ _ _ (ap (λ (u : SetData). u.parts) c.release.ensures.kept)) (λ told. refl)
    (λ told. brings_same _ _ _ _ _ refl (ap (λ (u : SetData). u.parts) c.release.ensures.kept))
    (λ told. views_fewer files (λ (v : NamedView). not (bytes_eq v.name c.args.name.now)) c.self.inside.set c.release.new.self
    (ap (λ (u : SetData). u.snapshots) c.release.ensures.kept))
    (λ told. counts_same _ files files c.self.inside.set c.release.new.self (ap (λ (u : SetData). u.parts) c.release.ensures.kept)
    (ap (λ (u : SetData). u.buffer) c.release.ensures.kept) (ap (λ (u : SetData). u.points_given) c.release.ensures.kept) (λ p there. refl))
    (λ told. c.release.ensures.faithful files))
    (λ told i seen. does_release _ _ _ _ i _ _ _ seen (sym c.has_snapshot.ensures ∙ c.if-not-has_snapshot.false) (c.release.ensures.seen files i seen)
    c.in_ok-put_ok.ensures.ok)
    (begins_with _ _ _ c.in_ok-put_ok.ensures.ok) (no_cause faults applied.Done) (λ told i seen. tt) tt)

pub has_snapshot-requires : goal.has_snapshot-requires
has_snapshot-requires g c = set_fits g.row.D c.self.invariant.few

pub release-requires : goal.release-requires
release-requires g c = set_fits g.row.D c.self.invariant.few

pub returns-in_err-put_ok-clause-damage : goal.returns-in_err-put_ok-clause-damage
returns-in_err-put_ok-clause-damage g c =
    let p = err_from_is_err_and c.from_residual.result c.from_residual.ensures.1 in
    damage_to _ _ page.Memory (p.1 ∙ ap (λ (e : PageFault). Err e) p.2) tt

pub returns-then-not-has_snapshot-clause-still : goal.returns-then-not-has_snapshot-clause-still
returns-then-not-has_snapshot-clause-still g c files = still_same _ _ _

pub returns-in_err-put_ok-clause-still : goal.returns-in_err-put_ok-clause-still
returns-in_err-put_ok-clause-still g c files =
    let p = err_from_is_err_and c.from_residual.result c.from_residual.ensures.1 in
    fault_keeps _ _ _ (p.1 ∙ ap (λ (e : PageFault). Err e) p.2)

pub returns-clause-still : goal.returns-clause-still
returns-clause-still g c files = tt

pub returns-then-not-has_snapshot-clause-light : goal.returns-then-not-has_snapshot-clause-light
returns-then-not-has_snapshot-clause-light g c files = light_same _ _ _ _

pub returns-in_err-put_ok-clause-light : goal.returns-in_err-put_ok-clause-light
returns-in_err-put_ok-clause-light g c files = light_same _ _ _ _

pub returns-clause-light : goal.returns-clause-light
returns-clause-light g c files = light_released _ _ _ _ _ c.self.view_is c.release.ensures.kept

pub returns-in_err-put_ok-clause-left : goal.returns-in_err-put_ok-clause-left
returns-in_err-put_ok-clause-left g c = on_err_any _ c.from_residual.result refl

pub returns-in_err-put_ok-clause-leaves : goal.returns-in_err-put_ok-clause-leaves
returns-in_err-put_ok-clause-leaves g c =
    let p = err_from_is_err_and c.from_residual.result c.from_residual.ensures.1 in
    undone_any _ _ _ (p.1 ∙ ap (λ (e : PageFault). Err e) p.2)

pub returns-clause-leaves : goal.returns-clause-leaves
returns-clause-leaves g c =
    subst (λ (u : SessionData). c.release.new.self ≡ set_released c.args.name.now u.set) c.self.view_is c.release.ensures.kept
