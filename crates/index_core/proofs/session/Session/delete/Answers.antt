-- A document goes, if it is live.
use Rattle.std.proofs.Common.{◌++◌, Err, refl, sym, ap, ◌∙◌}
use Rattle.std.proofs.lemmas.Result.{err_from_is_err_and}
use Rattle.page_cache.specs.declared.faults.PageFault.{PageFault}
use Rattle.std.proofs.Common.{◌≡◌, cond, take}
use Rattle.script_lang.specs.Replies.{deleted_text}
use Rattle.index_model.specs.declared.session.Applied.TheVariants as applied
use Rattle.segment_set.specs.Sets.{SetData}
use Rattle.index_core.proofs.Answering.{applies, applies_memory, applies_seen, applies_unsaid, begins_with, no_cause}
use Rattle.index_core.proofs.CalmCalls.{calm_like, cut_back}
use Rattle.index_core.proofs.Changing.{does_delete, seen_deleted}
use Rattle.segment_set.proofs.Counts.{counts_deleted}
use Rattle.segment_set.proofs.Sizes.{set_fits}
use Rattle.index_core.proofs.Bringing.{brings_cleared}
use Rattle.page_cache.specs.declared.faults.PageFault.TheVariants as page
use Rattle.index_core.proofs.Showing.{damage_to}
use Rattle.index_core.proofs.Lightly.{light_deleted, light_same}
use Rattle.index_core.proofs.Guarding.{grows_same}
use Rattle.std.proofs.Common.{false, subst, inl, inr}
use Rattle.segment_set.specs.Sets.{is_live_in, set_but}
use Rattle.index_core.specs.Sessions.{SessionData}
use Rattle.index_core.proofs.Arranging.{on_err_any, undone_any}
use Rattle.index_core.proofs.Lasting.{deletes_last, lasts_itself}
use Rattle.index_core.proofs.Carrying.{views_same}
use Rattle.index_core.proofs.session.Session.delete.Goals as goal

pub returns-in_err-put_deleted-clause-applies : goal.returns-in_err-put_deleted-clause-applies
returns-in_err-put_deleted-clause-applies g c files faults =
    let p = err_from_is_err_and c.from_residual.result c.from_residual.ensures.1 in
    applies_memory _ _ _ _ _ _ _ _ _ (p.1 ∙ ap (λ (e : PageFault). Err e) p.2) c.in_err-put_deleted.ensures.memory

pub returns-then-delete-clause-applies : goal.returns-then-delete-clause-applies
returns-then-delete-clause-applies g c files faults = applies_seen _ _ _ _ _ _ _ _ _ _ _ c.self.view_is
    (applies _ _ _ _ _ _
    (calm_like _ _ _ _ _ _ _ _ _ _ _ _ (ap (λ (u : SetData). u.names) c.delete.ensures.rest)
    (grows_same _ _ (ap (λ (u : SetData). u.leaf_size) c.delete.ensures.rest) (ap (λ (u : SetData). u.next) c.delete.ensures.rest)
    (ap (λ (u : SetData). u.points_given) c.delete.ensures.rest))
    c.delete.ensures.follows (λ told. refl) (λ told. brings_cleared _ files _ _ _ (ap (λ (u : SetData). u.parts) c.delete.ensures.rest))
    (λ told. views_same files files c.self.inside.set c.delete.new.self refl (ap (λ (u : SetData). u.snapshots) c.delete.ensures.rest))
    (λ told. counts_deleted _ files c.args.doc c.self.inside.set c.delete.new.self c.delete.ensures.rest) (λ told. c.delete.ensures.faithful files))
    (λ told i seen. does_delete _ _ _ i _ c.delete.result _ _ (c.delete.ensures.live files i seen) (c.delete.ensures.seen files i seen)
    (c.in_ok-put_deleted.ensures.ok ∙ ap (λ b. c.args.out.now.items ++ deleted_text (cond b 1 0)) (sym c.if-delete.true)))
    (begins_with _ _ _ c.in_ok-put_deleted.ensures.ok) (no_cause faults applied.Done) (λ told i seen. tt) tt)

pub returns-in_err-put_deleted-2-clause-applies : goal.returns-in_err-put_deleted-2-clause-applies
returns-in_err-put_deleted-2-clause-applies g c files faults =
    let p = err_from_is_err_and c.from_residual-in_err-put_deleted-2.result c.from_residual-in_err-put_deleted-2.ensures.1 in
    applies_seen _ _ _ _ _ _ _ _ _ _ _ c.self.view_is
    (applies_unsaid {T = Unit {0}} _ _ _ _ _ _ tt
    (calm_like _ _ _ _ _ _ _ _ _ _ _ _ (ap (λ (u : SetData). u.names) c.delete.ensures.rest)
    (grows_same _ _ (ap (λ (u : SetData). u.leaf_size) c.delete.ensures.rest) (ap (λ (u : SetData). u.next) c.delete.ensures.rest)
    (ap (λ (u : SetData). u.points_given) c.delete.ensures.rest))
    c.delete.ensures.follows (λ told. refl) (λ told. brings_cleared _ files _ _ _ (ap (λ (u : SetData). u.parts) c.delete.ensures.rest))
    (λ told. views_same files files c.self.inside.set c.delete.new.self refl (ap (λ (u : SetData). u.snapshots) c.delete.ensures.rest))
    (λ told. counts_deleted _ files c.args.doc c.self.inside.set c.delete.new.self c.delete.ensures.rest) (λ told. c.delete.ensures.faithful files))
    (p.1 ∙ ap (λ (e : PageFault). Err e) p.2)
    (λ told i seen. seen_deleted _ _ _ i _ (sym (c.delete.ensures.live files i seen) ∙ c.if-delete.false) (c.delete.ensures.seen files i seen))
    (c.in_err-put_deleted-2.ensures.memory ∙ c.truncate.ensures.items ∙ ap (take c.len-before.result) c.in_ok-put_deleted.ensures.ok
    ∙ cut_back c.len-before.result _ _ (c.len-before.ensures ∙ c.args.out.now.ok.0))
    (no_cause faults tt))

pub returns-clause-applies : goal.returns-clause-applies
returns-clause-applies g c files faults =
    let cut : c.truncate.new.self.items ≡ c.args.out.now.items =
    c.truncate.ensures.items ∙ ap (take c.len-before.result) c.in_ok-put_deleted.ensures.ok
    ∙ cut_back c.len-before.result _ _ (c.len-before.ensures ∙ c.args.out.now.ok.0) in
    let grew : c.put_deleted-2.new.out.items ≡ c.args.out.now.items ++ deleted_text 0 =
    c.in_ok-put_deleted-2.ensures.ok ∙ ap (λ xs. xs ++ deleted_text 0) cut in
    applies_seen _ _ _ _ _ _ _ _ _ _ _ c.self.view_is
    (applies _ _ _ _ _ _
    (calm_like _ _ _ _ _ _ _ _ _ _ _ _ (ap (λ (u : SetData). u.names) c.delete.ensures.rest)
    (grows_same _ _ (ap (λ (u : SetData). u.leaf_size) c.delete.ensures.rest) (ap (λ (u : SetData). u.next) c.delete.ensures.rest)
    (ap (λ (u : SetData). u.points_given) c.delete.ensures.rest))
    c.delete.ensures.follows (λ told. refl) (λ told. brings_cleared _ files _ _ _ (ap (λ (u : SetData). u.parts) c.delete.ensures.rest))
    (λ told. views_same files files c.self.inside.set c.delete.new.self refl (ap (λ (u : SetData). u.snapshots) c.delete.ensures.rest))
    (λ told. counts_deleted _ files c.args.doc c.self.inside.set c.delete.new.self c.delete.ensures.rest) (λ told. c.delete.ensures.faithful files))
    (λ told i seen. does_delete _ _ _ i _ c.delete.result _ _ (c.delete.ensures.live files i seen) (c.delete.ensures.seen files i seen)
    (grew ∙ ap (λ b. c.args.out.now.items ++ deleted_text (cond b 1 0)) (sym c.if-delete.false)))
    (begins_with _ _ _ grew) (no_cause faults applied.Done) (λ told i seen. tt) tt)

pub delete-requires : goal.delete-requires
delete-requires g c = set_fits g.row.D c.self.invariant.few

pub returns-in_err-put_deleted-clause-damage : goal.returns-in_err-put_deleted-clause-damage
returns-in_err-put_deleted-clause-damage g c =
    let p = err_from_is_err_and c.from_residual.result c.from_residual.ensures.1 in
    damage_to _ _ page.Memory (p.1 ∙ ap (λ (e : PageFault). Err e) p.2) tt

pub returns-in_err-put_deleted-2-clause-damage : goal.returns-in_err-put_deleted-2-clause-damage
returns-in_err-put_deleted-2-clause-damage g c =
    let p = err_from_is_err_and c.from_residual-in_err-put_deleted-2.result c.from_residual-in_err-put_deleted-2.ensures.1 in
    damage_to _ _ page.Memory (p.1 ∙ ap (λ (e : PageFault). Err e) p.2) tt

pub returns-in_err-put_deleted-clause-light : goal.returns-in_err-put_deleted-clause-light
returns-in_err-put_deleted-clause-light g c files = light_same _ _ _ _

pub returns-then-delete-clause-light : goal.returns-then-delete-clause-light
returns-then-delete-clause-light g c files = light_deleted _ _ _ _ _ c.self.view_is c.delete.ensures.rest

pub returns-in_err-put_deleted-2-clause-light : goal.returns-in_err-put_deleted-2-clause-light
returns-in_err-put_deleted-2-clause-light g c files = light_deleted _ _ _ _ _ c.self.view_is c.delete.ensures.rest

pub returns-clause-light : goal.returns-clause-light
returns-clause-light g c files = light_deleted _ _ _ _ _ c.self.view_is c.delete.ensures.rest

pub returns-in_err-put_deleted-clause-left : goal.returns-in_err-put_deleted-clause-left
returns-in_err-put_deleted-clause-left g c = on_err_any _ c.from_residual.result (inl refl)

pub returns-in_err-put_deleted-2-clause-left : goal.returns-in_err-put_deleted-2-clause-left
returns-in_err-put_deleted-2-clause-left g c = on_err_any _ c.from_residual-in_err-put_deleted-2.result
    (inr (subst (λ (u : SessionData). (is_live_in u.set c.args.doc ≡ false) × (c.delete.new.self ≡ set_but c.args.doc u.set)) c.self.view_is
    (sym c.delete.ensures.answer ∙ c.if-delete.false, c.delete.ensures.rest)))

pub returns-in_err-put_deleted-clause-leaves : goal.returns-in_err-put_deleted-clause-leaves
returns-in_err-put_deleted-clause-leaves g c =
    let p = err_from_is_err_and c.from_residual.result c.from_residual.ensures.1 in
    undone_any _ _ _ (p.1 ∙ ap (λ (e : PageFault). Err e) p.2)

pub returns-in_err-put_deleted-2-clause-leaves : goal.returns-in_err-put_deleted-2-clause-leaves
returns-in_err-put_deleted-2-clause-leaves g c =
    let p = err_from_is_err_and c.from_residual-in_err-put_deleted-2.result c.from_residual-in_err-put_deleted-2.ensures.1 in
    undone_any _ _ _ (p.1 ∙ ap (λ (e : PageFault). Err e) p.2)

pub returns-then-delete-clause-leaves : goal.returns-then-delete-clause-leaves
returns-then-delete-clause-leaves g c = subst (λ (u : SessionData). c.delete.new.self ≡ set_but c.args.doc u.set) c.self.view_is c.delete.ensures.rest

pub returns-clause-leaves : goal.returns-clause-leaves
returns-clause-leaves g c = subst (λ (u : SessionData). c.delete.new.self ≡ set_but c.args.doc u.set) c.self.view_is c.delete.ensures.rest

pub returns-in_err-put_deleted-clause-lasts : goal.returns-in_err-put_deleted-clause-lasts
returns-in_err-put_deleted-clause-lasts g c files = lasts_itself _ _ _ _

pub returns-in_err-put_deleted-2-clause-lasts : goal.returns-in_err-put_deleted-2-clause-lasts
returns-in_err-put_deleted-2-clause-lasts g c files = deletes_last _ _ _ _ _
    (subst (λ (u : SessionData). c.delete.new.self ≡ set_but c.args.doc u.set) c.self.view_is c.delete.ensures.rest)

pub returns-then-delete-clause-lasts : goal.returns-then-delete-clause-lasts
returns-then-delete-clause-lasts g c files = deletes_last _ _ _ _ _
    (subst (λ (u : SessionData). c.delete.new.self ≡ set_but c.args.doc u.set) c.self.view_is c.delete.ensures.rest)

pub returns-clause-lasts : goal.returns-clause-lasts
returns-clause-lasts g c files = deletes_last _ _ _ _ _
    (subst (λ (u : SessionData). c.delete.new.self ≡ set_but c.args.doc u.set) c.self.view_is c.delete.ensures.rest)
