-- The buffer goes to a segment, and the set is seen as before.
use Rattle.std.proofs.Common.{Err, refl, sym, ap, subst, ◌∙◌, IsTrue}
use Rattle.std.proofs.lemmas.Result.{err_from_is_err_and}
use Rattle.page_cache.specs.declared.faults.PageFault.{PageFault}
use Rattle.script_lang.specs.Replies.{ok_text}
use Rattle.index_model.specs.Step.{step_on}
use Rattle.segment_set.proofs.Sizes.{set_fits}
use Rattle.index_core.proofs.Answering.{applies_done, applies_merging_fault, applies_seen, applies_unsaid, begins_itself, does_done}
use Rattle.index_core.specs.Sessions.{SessionData}
use Rattle.index_core.specs.Effects.{IsFlushed}
use Rattle.index_core.proofs.Bringing.{brings_written}
use Rattle.page_cache.specs.declared.faults.PageFault.TheVariants as page
use Rattle.index_core.specs.Damages.{ShowsMerge}
use Rattle.index_core.proofs.Showing.{damage_to, merge_none, merge_to}
use Rattle.segment_set.specs.Sets.{IsSettled}
use Rattle.index_core.proofs.Keeping.{fault_keeps}
use Rattle.index_core.proofs.Guarding.{grows_alone}
use Rattle.index_core.proofs.Arranging.{arranged_flushed, arranged_seen, arranged_settled, on_err_any}
use Rattle.index_core.proofs.Lasting.{lasts_seen, moves_last}
use Rattle.index_core.proofs.Carrying.{views_named}
use Rattle.index_core.proofs.session.Session.flush.Goals as goal

pub returns-clause-applies : goal.returns-clause-applies
unfolding step_on
returns-clause-applies g c = applies_seen _ _ _ _ _ _ _ _ _ _ _ c.self.view_is
    (applies_done _ _ _ _ _ c.in_ok-flush.field-0 ok_text
    (record {
      commit = refl;
      refused = refl;
      grows = grows_alone _ _ c.flush.ensures.moves.stays;
      keeps = c.flush.ensures.moves.kept;
      follows = c.flush.ensures.moves.follows;
      brings = λ told. brings_written _ _ _ _ _ _ _ _ told c.flush.ensures.moves.kept c.flush.ensures.moves.follows (c.flush.ensures.moves.canon told);
      views = λ told. views_named _ _ _ _ c.self.inside.set c.flush.new.self told c.flush.ensures.moves.kept
          c.leaf_size-leaf_size.ensures.well c.flush.ensures.moves.stays.snapshots;
      counts = λ told faithful. c.flush.ensures.moves.counts told c.leaf_size-leaf_size.ensures.well faithful.heads;
      faithful = c.flush.ensures.faithful;
    })
    (λ told i seen. does_done _ _ i i _ ok_text _ _ (c.flush.ensures.moves.seen told i seen) c.in_ok-put_ok.ensures.ok)
    c.in_ok-put_ok.ensures.ok c.in_ok-flush.ensures.cause)

pub returns-in_err-flush-clause-applies : goal.returns-in_err-flush-clause-applies
returns-in_err-flush-clause-applies g c =
    let p = err_from_is_err_and c.from_residual.result c.from_residual.ensures.1 in
    applies_seen _ _ _ _ _ _ _ _ _ _ _ c.self.view_is
    (applies_merging_fault _ _ _ _ _ _ c.in_err-flush.field-0.0
    (record {
      commit = refl;
      refused = refl;
      grows = grows_alone _ _ c.flush.ensures.moves.stays;
      keeps = c.flush.ensures.moves.kept;
      follows = c.flush.ensures.moves.follows;
      brings = λ told. brings_written _ _ _ _ _ _ _ _ told c.flush.ensures.moves.kept c.flush.ensures.moves.follows (c.flush.ensures.moves.canon told);
      views = λ told. views_named _ _ _ _ c.self.inside.set c.flush.new.self told c.flush.ensures.moves.kept
          c.leaf_size-leaf_size.ensures.well c.flush.ensures.moves.stays.snapshots;
      counts = λ told faithful. c.flush.ensures.moves.counts told c.leaf_size-leaf_size.ensures.well faithful.heads;
      faithful = c.flush.ensures.faithful;
    })
    c.leaf_size-leaf_size.ensures.well.named (p.1 ∙ ap (λ (e : PageFault). Err e) p.2) c.flush.ensures.moves.seen (begins_itself _) c.in_err-flush.ensures.cause
    c.in_err-flush.ensures.damaged.whole c.in_err-flush.ensures.damaged.evident)

pub returns-in_err-put_ok-clause-applies : goal.returns-in_err-put_ok-clause-applies
returns-in_err-put_ok-clause-applies g c =
    let p = err_from_is_err_and c.from_residual-in_err-put_ok.result c.from_residual-in_err-put_ok.ensures.1 in
    applies_seen _ _ _ _ _ _ _ _ _ _ _ c.self.view_is
    (applies_unsaid _ _ _ _ _ _ c.in_ok-flush.field-0
    (record {
      commit = refl;
      refused = refl;
      grows = grows_alone _ _ c.flush.ensures.moves.stays;
      keeps = c.flush.ensures.moves.kept;
      follows = c.flush.ensures.moves.follows;
      brings = λ told. brings_written _ _ _ _ _ _ _ _ told c.flush.ensures.moves.kept c.flush.ensures.moves.follows (c.flush.ensures.moves.canon told);
      views = λ told. views_named _ _ _ _ c.self.inside.set c.flush.new.self told c.flush.ensures.moves.kept
          c.leaf_size-leaf_size.ensures.well c.flush.ensures.moves.stays.snapshots;
      counts = λ told faithful. c.flush.ensures.moves.counts told c.leaf_size-leaf_size.ensures.well faithful.heads;
      faithful = c.flush.ensures.faithful;
    })
    (p.1 ∙ ap (λ (e : PageFault). Err e) p.2) c.flush.ensures.moves.seen c.in_err-put_ok.ensures.memory c.in_ok-flush.ensures.cause)

pub leaf_size-leaf_size-requires : goal.leaf_size-leaf_size-requires
leaf_size-leaf_size-requires g c = set_fits g.row.D c.self.invariant.few

pub flush-requires-after_bounds : goal.flush-requires-after_bounds
flush-requires-after_bounds g c κs = λ _. set_fits g.row.D c.self.invariant.few

pub returns-clause-leaves : goal.returns-clause-leaves
returns-clause-leaves g c =
    let done = c.in_ok-flush.ensures in
    subst (λ (s : SessionData).
    IsFlushed g.row.D (IsTrue g.F.Pages.told) (g.F.Pages.files c.args.folder.now) (g.F.Pages.files c.flush.new.folder) s.set c.flush.new.self) c.self.view_is
    (record { flushes = done.flushed; emptied = done.emptied; levels = done.levels; begun = done.moves.begun; canon = done.moves.canon })

pub returns-in_err-flush-clause-damage : goal.returns-in_err-flush-clause-damage
returns-in_err-flush-clause-damage g c =
    let p = err_from_is_err_and c.from_residual.result c.from_residual.ensures.1 in
    subst (λ (u : SessionData).
    ShowsMerge g.row.D (IsTrue g.F.Pages.told) (g.F.Pages.files c.args.folder.now) (g.F.Pages.files c.flush.new.folder) u.set c.flush.new.self
    c.from_residual.result)
    c.self.view_is
    (merge_to {T = Unit {0}} _ _ _ _ _ _ c.in_err-flush.field-0.0 (p.1 ∙ ap (λ (e : PageFault). Err e) p.2)
    (record { shown = c.in_err-flush.ensures.damaged.shown; damage = c.in_err-flush.ensures.damaged.damage; doubled = c.in_err-flush.ensures.damaged.doubled }))

pub returns-in_err-put_ok-clause-damage : goal.returns-in_err-put_ok-clause-damage
returns-in_err-put_ok-clause-damage g c =
    let p = err_from_is_err_and c.from_residual-in_err-put_ok.result c.from_residual-in_err-put_ok.ensures.1 in
    merge_none _ _ _ _ _ _ (damage_to _ _ page.Memory (p.1 ∙ ap (λ (e : PageFault). Err e) p.2) tt)

pub returns-clause-damage : goal.returns-clause-damage
returns-clause-damage g c = merge_none _ _ _ _ _ _ tt

pub returns-in_err-flush-clause-reads : goal.returns-in_err-flush-clause-reads
returns-in_err-flush-clause-reads g c settled = c.flush.ensures.rested (subst (λ (u : SessionData). IsSettled u.set) (sym c.self.view_is) settled)

pub returns-in_err-put_ok-clause-reads : goal.returns-in_err-put_ok-clause-reads
returns-in_err-put_ok-clause-reads g c settled = c.flush.ensures.rested (subst (λ (u : SessionData). IsSettled u.set) (sym c.self.view_is) settled)

pub returns-clause-reads : goal.returns-clause-reads
returns-clause-reads g c settled = c.flush.ensures.rested (subst (λ (u : SessionData). IsSettled u.set) (sym c.self.view_is) settled)

pub returns-in_err-flush-clause-unread : goal.returns-in_err-flush-clause-unread
returns-in_err-flush-clause-unread g c =
    let p = err_from_is_err_and c.from_residual.result c.from_residual.ensures.1 in
    fault_keeps _ _ _ (p.1 ∙ ap (λ (e : PageFault). Err e) p.2)

pub returns-in_err-put_ok-clause-unread : goal.returns-in_err-put_ok-clause-unread
returns-in_err-put_ok-clause-unread g c =
    let p = err_from_is_err_and c.from_residual-in_err-put_ok.result c.from_residual-in_err-put_ok.ensures.1 in
    fault_keeps _ _ _ (p.1 ∙ ap (λ (e : PageFault). Err e) p.2)

pub returns-clause-unread : goal.returns-clause-unread
returns-clause-unread g c = tt

pub returns-in_err-flush-clause-left : goal.returns-in_err-flush-clause-left
returns-in_err-flush-clause-left g c = on_err_any _ c.from_residual.result
    (arranged_seen _ _ _ _ _ _ c.self.view_is (arranged_settled _ _ _ _ _ c.in_err-flush.ensures.left))

pub returns-in_err-put_ok-clause-left : goal.returns-in_err-put_ok-clause-left
returns-in_err-put_ok-clause-left g c = on_err_any _ c.from_residual-in_err-put_ok.result
    (arranged_seen _ _ _ _ _ _ c.self.view_is (arranged_flushed _ _ _ _ _ _ c.in_ok-flush.ensures.flushed))

pub returns-in_err-flush-clause-lasts : goal.returns-in_err-flush-clause-lasts
returns-in_err-flush-clause-lasts g c =
    lasts_seen _ _ _ _ _ _ _ c.self.view_is (moves_last _ _ _ _ _ _ c.leaf_size-leaf_size.ensures.well c.flush.ensures.moves)

pub returns-in_err-put_ok-clause-lasts : goal.returns-in_err-put_ok-clause-lasts
returns-in_err-put_ok-clause-lasts g c =
    lasts_seen _ _ _ _ _ _ _ c.self.view_is (moves_last _ _ _ _ _ _ c.leaf_size-leaf_size.ensures.well c.flush.ensures.moves)

pub returns-clause-lasts : goal.returns-clause-lasts
returns-clause-lasts g c = lasts_seen _ _ _ _ _ _ _ c.self.view_is (moves_last _ _ _ _ _ _ c.leaf_size-leaf_size.ensures.well c.flush.ensures.moves)
