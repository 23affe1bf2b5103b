-- Segments are merged, and the set is seen as before.
use Rattle.std.proofs.Common.{Err, refl, ap, subst, ◌∙◌, IsTrue}
use Rattle.std.proofs.lemmas.Result.{err_from_is_err_and}
use Rattle.page_cache.specs.declared.faults.PageFault.{PageFault}
use Rattle.script_lang.specs.Replies.{ok_text}
use Rattle.index_model.specs.Step.{step_on}
use Rattle.segment_set.proofs.Sizes.{set_fits}
use Rattle.index_core.proofs.Answering.{applies_done, applies_memory, applies_merging_fault, applies_seen, begins_with, does_done}
use Rattle.index_core.specs.Sessions.{SessionData}
use Rattle.index_core.specs.Effects.{IsMergedAll}
use Rattle.index_core.proofs.Bringing.{brings_written}
use Rattle.page_cache.specs.declared.faults.PageFault.TheVariants as page
use Rattle.index_core.specs.Damages.{ShowsMerge}
use Rattle.index_core.proofs.Showing.{damage_to, merge_none, merge_to}
use Rattle.index_core.proofs.Keeping.{fault_keeps}
use Rattle.index_core.proofs.Guarding.{grows_alone}
use Rattle.index_core.proofs.Arranging.{arranged_before, arranged_same, arranged_seen, on_err_any}
use Rattle.index_core.proofs.Lasting.{lasts_itself, lasts_seen, moves_last}
use Rattle.index_core.proofs.Carrying.{views_named}
use Rattle.index_core.proofs.session.Session.merge.Goals as goal

pub returns-clause-applies : goal.returns-clause-applies
unfolding step_on
returns-clause-applies g c = applies_seen _ _ _ _ _ _ _ _ _ _ _ c.self.view_is
    (applies_done _ _ _ _ _ c.in_ok-merge_all.field-0 ok_text
    (record {
      commit = refl;
      refused = refl;
      grows = grows_alone _ _ c.merge_all.ensures.moves.stays;
      keeps = c.merge_all.ensures.moves.kept;
      follows = c.merge_all.ensures.moves.follows;
      brings = λ told.
          brings_written _ _ _ _ _ _ _ _ told c.merge_all.ensures.moves.kept c.merge_all.ensures.moves.follows (c.merge_all.ensures.moves.canon told);
      views = λ told. views_named _ _ _ _ c.self.inside.set c.merge_all.new.self told c.merge_all.ensures.moves.kept
          c.leaf_size-leaf_size.ensures.well c.merge_all.ensures.moves.stays.snapshots;
      counts = λ told faithful. c.merge_all.ensures.moves.counts told c.leaf_size-leaf_size.ensures.well faithful.heads;
      faithful = c.merge_all.ensures.faithful;
    })
    (λ told i seen. does_done _ _ i i _ ok_text _ _ (c.merge_all.ensures.moves.seen told i seen) c.in_ok-put_ok.ensures.ok)
    c.in_ok-put_ok.ensures.ok c.in_ok-merge_all.ensures.cause)

pub returns-in_err-merge_all-clause-applies : goal.returns-in_err-merge_all-clause-applies
returns-in_err-merge_all-clause-applies g c =
    let p = err_from_is_err_and c.from_residual-in_err-merge_all.result c.from_residual-in_err-merge_all.ensures.1 in
    applies_seen _ _ _ _ _ _ _ _ _ _ _ c.self.view_is
    (applies_merging_fault _ _ _ _ _ _ c.in_err-merge_all.field-0.0
    (record {
      commit = refl;
      refused = refl;
      grows = grows_alone _ _ c.merge_all.ensures.moves.stays;
      keeps = c.merge_all.ensures.moves.kept;
      follows = c.merge_all.ensures.moves.follows;
      brings = λ told.
          brings_written _ _ _ _ _ _ _ _ told c.merge_all.ensures.moves.kept c.merge_all.ensures.moves.follows (c.merge_all.ensures.moves.canon told);
      views = λ told. views_named _ _ _ _ c.self.inside.set c.merge_all.new.self told c.merge_all.ensures.moves.kept
          c.leaf_size-leaf_size.ensures.well c.merge_all.ensures.moves.stays.snapshots;
      counts = λ told faithful. c.merge_all.ensures.moves.counts told c.leaf_size-leaf_size.ensures.well faithful.heads;
      faithful = c.merge_all.ensures.faithful;
    })
    c.leaf_size-leaf_size.ensures.well.named (p.1 ∙ ap (λ (e : PageFault). Err e) p.2) c.merge_all.ensures.moves.seen
    (begins_with _ _ _ c.in_ok-put_ok.ensures.ok)
    c.in_err-merge_all.ensures.cause
    c.in_err-merge_all.ensures.damaged.whole c.in_err-merge_all.ensures.damaged.evident)

pub returns-in_err-put_ok-clause-applies : goal.returns-in_err-put_ok-clause-applies
returns-in_err-put_ok-clause-applies g c =
    let p = err_from_is_err_and c.from_residual.result c.from_residual.ensures.1 in
    applies_memory _ _ _ _ _ _ _ _ _ (p.1 ∙ ap (λ (e : PageFault). Err e) p.2) c.in_err-put_ok.ensures.memory

pub leaf_size-leaf_size-requires : goal.leaf_size-leaf_size-requires
leaf_size-leaf_size-requires g c = set_fits g.row.D c.self.invariant.few

pub merge_all-requires-after_bounds : goal.merge_all-requires-after_bounds
merge_all-requires-after_bounds g c κs = λ _. set_fits g.row.D c.self.invariant.few

pub returns-clause-leaves : goal.returns-clause-leaves
returns-clause-leaves g c =
    let done = c.in_ok-merge_all.ensures in
    subst (λ (s : SessionData).
    IsMergedAll g.row.D (IsTrue g.F.Pages.told) (g.F.Pages.files c.args.folder.now) (g.F.Pages.files c.merge_all.new.folder) s.set c.merge_all.new.self)
    c.self.view_is
    (record {
      buffer = done.buffer;
      begun = done.moves.begun;
      one = done.one;
      all_live = done.all_live;
      still = λ tidy. (done.still tidy).0;
      merged = done.merged;
      canon = done.moves.canon;
    })

pub returns-in_err-merge_all-clause-damage : goal.returns-in_err-merge_all-clause-damage
returns-in_err-merge_all-clause-damage g c =
    let p = err_from_is_err_and c.from_residual-in_err-merge_all.result c.from_residual-in_err-merge_all.ensures.1 in
    subst (λ (u : SessionData).
    ShowsMerge g.row.D (IsTrue g.F.Pages.told) (g.F.Pages.files c.args.folder.now) (g.F.Pages.files c.merge_all.new.folder) u.set c.merge_all.new.self
    c.from_residual-in_err-merge_all.result)
    c.self.view_is
    (merge_to {T = Unit {0}} _ _ _ _ _ _ c.in_err-merge_all.field-0.0 (p.1 ∙ ap (λ (e : PageFault). Err e) p.2)
    (record {
      shown = c.in_err-merge_all.ensures.damaged.shown;
      damage = c.in_err-merge_all.ensures.damaged.damage;
      doubled = c.in_err-merge_all.ensures.damaged.doubled;
    }))

pub returns-in_err-put_ok-clause-damage : goal.returns-in_err-put_ok-clause-damage
returns-in_err-put_ok-clause-damage g c =
    let p = err_from_is_err_and c.from_residual.result c.from_residual.ensures.1 in
    merge_none _ _ _ _ _ _ (damage_to _ _ page.Memory (p.1 ∙ ap (λ (e : PageFault). Err e) p.2) tt)

pub returns-clause-damage : goal.returns-clause-damage
returns-clause-damage g c = merge_none _ _ _ _ _ _ tt

pub returns-in_err-merge_all-clause-unread : goal.returns-in_err-merge_all-clause-unread
returns-in_err-merge_all-clause-unread g c =
    let p = err_from_is_err_and c.from_residual-in_err-merge_all.result c.from_residual-in_err-merge_all.ensures.1 in
    fault_keeps _ _ _ (p.1 ∙ ap (λ (e : PageFault). Err e) p.2)

pub returns-in_err-put_ok-clause-unread : goal.returns-in_err-put_ok-clause-unread
returns-in_err-put_ok-clause-unread g c =
    let p = err_from_is_err_and c.from_residual.result c.from_residual.ensures.1 in
    fault_keeps _ _ _ (p.1 ∙ ap (λ (e : PageFault). Err e) p.2)

pub returns-clause-unread : goal.returns-clause-unread
returns-clause-unread g c = tt

pub returns-in_err-merge_all-clause-left : goal.returns-in_err-merge_all-clause-left
returns-in_err-merge_all-clause-left g c = on_err_any _ c.from_residual-in_err-merge_all.result
    (arranged_seen _ _ _ _ _ _ c.self.view_is (arranged_before _ _ _ _ _ c.in_err-merge_all.ensures.refused))

pub returns-in_err-put_ok-clause-left : goal.returns-in_err-put_ok-clause-left
returns-in_err-put_ok-clause-left g c = on_err_any _ c.from_residual.result (arranged_same _ _ _ _ _ refl)

pub returns-in_err-merge_all-clause-lasts : goal.returns-in_err-merge_all-clause-lasts
returns-in_err-merge_all-clause-lasts g c =
    lasts_seen _ _ _ _ _ _ _ c.self.view_is (moves_last _ _ _ _ _ _ c.leaf_size-leaf_size.ensures.well c.merge_all.ensures.moves)

pub returns-in_err-put_ok-clause-lasts : goal.returns-in_err-put_ok-clause-lasts
returns-in_err-put_ok-clause-lasts g c told faithful = lasts_itself _ _ _ _

pub returns-clause-lasts : goal.returns-clause-lasts
returns-clause-lasts g c = lasts_seen _ _ _ _ _ _ _ c.self.view_is (moves_last _ _ _ _ _ _ c.leaf_size-leaf_size.ensures.well c.merge_all.ensures.moves)
