-- The begun merge is ended.
use Rattle.std.proofs.Common.{Err, refl, sym, ap, subst, ◌∙◌, IsTrue}
use Rattle.std.proofs.lemmas.Result.{err_from_is_err_and}
use Rattle.page_cache.specs.declared.faults.PageFault.{PageFault}
use Rattle.std.proofs.Common.{is_some}
use Rattle.std.proofs.lemmas.Bool.{both_ways}
use Rattle.script_lang.specs.declared.faults.Refusal.TheVariants as why
use Rattle.index_core.proofs.Answering.{applies, applies_is, applies_memory, applies_refused, applies_seen, begins_with}
use Rattle.index_core.proofs.FaultCauses.{cause_end, whole_end}
use Rattle.index_core.proofs.Changing.{does_end, does_not_begun}
use Rattle.segment_set.proofs.Sizes.{set_fits}
use Rattle.index_core.specs.Sessions.{SessionData}
use Rattle.index_core.specs.Effects.{HasEnded, OnDone}
use Rattle.index_core.specs.Replies.{end_answer}
use Rattle.index_core.proofs.Leaving.{end_leaves}
use Rattle.index_core.proofs.Bringing.{brings_written}
use Rattle.index_core.proofs.Guarding.{grows_same}
use Rattle.page_cache.specs.Evidence.{NotDamaged}
use Rattle.page_cache.specs.declared.faults.PageFault.TheVariants as page
use Rattle.index_core.proofs.Showing.{damage_to}
use Rattle.index_core.proofs.Keeping.{answer_keeps, end_keeps, fault_keeps, still_same}
use Rattle.std.proofs.Common.{OnErr}
use Rattle.segment_set.specs.Kept.{IsAsBefore}
use Rattle.index_core.proofs.Arranging.{end_left, on_err_any}
use Rattle.index_core.proofs.Lasting.{lasts_itself, lasts_seen, writes_last}
use Rattle.index_core.proofs.Carrying.{views_named}
use Rattle.index_core.proofs.session.Session.merge_end.Goals as goal
use Rattle.segment_set.proofs.Doubted.{whole_shows}

pub returns-then-not-is_merging-clause-applies : goal.returns-then-not-is_merging-clause-applies
returns-then-not-is_merging-clause-applies g c = applies_refused _ _ _ _ _ _ _ why.NotBegun
    (λ i seen. does_not_begun _ _ _ i _ seen
    (ap (λ (u : SessionData). is_some u.set.begun) (sym c.self.view_is) ∙ sym c.is_merging.ensures ∙ c.if-not-is_merging.true))

pub returns-in_err-put_ok-clause-applies : goal.returns-in_err-put_ok-clause-applies
returns-in_err-put_ok-clause-applies g c =
    let p = err_from_is_err_and c.from_residual.result c.from_residual.ensures.1 in
    applies_memory _ _ _ _ _ _ _ _ _ (p.1 ∙ ap (λ (e : PageFault). Err e) p.2) c.in_err-put_ok.ensures.memory

pub returns-clause-applies : goal.returns-clause-applies
returns-clause-applies g c =
    let some = sym c.is_merging.ensures ∙ c.if-not-is_merging.false in
    applies_is _ _ _ _ _ _ _ _ c.end_answer.ensures
    (applies_seen _ _ _ _ _ _ _ _ _ _ _ c.self.view_is
    (applies _ _ _ _ _ _
    (record {
      commit = refl;
      refused = refl;
      grows = grows_same c.self.inside.set c.merge_end.new.self c.merge_end.ensures.stays.leaf_size c.merge_end.ensures.stays.next
          c.merge_end.ensures.stays.points_given;
      keeps = c.merge_end.ensures.rewrites.kept;
      follows = c.merge_end.ensures.rewrites.follows;
      brings = λ told.
          brings_written _ _ _ _ _ _ _ _ told c.merge_end.ensures.rewrites.kept c.merge_end.ensures.rewrites.follows (c.merge_end.ensures.rewrites.canon told);
      views = λ told. views_named _ _ _ _ c.self.inside.set c.merge_end.new.self told c.merge_end.ensures.rewrites.kept
          c.leaf_size-leaf_size.ensures.well c.merge_end.ensures.stays.snapshots;
      counts = λ told faithful. c.merge_end.ensures.rewrites.counts told c.leaf_size-leaf_size.ensures.well faithful;
      faithful = c.merge_end.ensures.rewrites.faithful;
    })
    (λ told i seen.
    does_end _ _ _ _ _ i c.merge_end.result _ _ seen some (λ e. both_ways (is_some c.self.inside.set.begun) (c.merge_end.ensures.not_begun.0 e) some)
    (c.merge_end.ensures.seen told i seen) (c.merge_end.ensures.refused told i seen) c.in_ok-put_ok.ensures.ok)
    (begins_with _ _ _ c.in_ok-put_ok.ensures.ok)
    (cause_end _ _ c.merge_end.result (λ e. both_ways (is_some c.self.inside.set.begun) (c.merge_end.ensures.not_begun.0 e) some) c.merge_end.ensures.cause)
    (λ told i seen. whole_end c.merge_end.result c.merge_end.ensures.whole)
    (whole_shows _ _ (whole_end c.merge_end.result c.merge_end.ensures.whole))))

pub is_merging-requires : goal.is_merging-requires
is_merging-requires g c = set_fits g.row.D c.self.invariant.few

pub merge_end-requires : goal.merge_end-requires
merge_end-requires g c = set_fits g.row.D c.self.invariant.few

pub returns-clause-leaves : goal.returns-clause-leaves
returns-clause-leaves g c =
    let done = c.merge_end.ensures in
    let files = g.F.Pages.files c.merge_end.new.folder in
    subst (λ r. OnDone r (HasEnded g.row.D (IsTrue g.F.Pages.told) files c.args.self.now.set c.merge_end.new.self)) (sym c.end_answer.ensures)
    (subst (λ (s : SessionData). OnDone (end_answer c.merge_end.result) (HasEnded g.row.D (IsTrue g.F.Pages.told) files s.set c.merge_end.new.self))
    c.self.view_is
    (end_leaves g.row.D (IsTrue g.F.Pages.told) files c.self.inside.set c.merge_end.new.self c.merge_end.result c.leaf_size-leaf_size.ensures.well
    done.ends.ended done.ends.parts done.ends.replaced done.rewrites.kept.more done.buffer done.rewrites.canon))

pub leaf_size-leaf_size-requires : goal.leaf_size-leaf_size-requires
leaf_size-leaf_size-requires g c = set_fits g.row.D c.self.invariant.few

pub returns-in_err-put_ok-clause-damage : goal.returns-in_err-put_ok-clause-damage
returns-in_err-put_ok-clause-damage g c =
    let p = err_from_is_err_and c.from_residual.result c.from_residual.ensures.1 in
    damage_to _ _ page.Memory (p.1 ∙ ap (λ (e : PageFault). Err e) p.2) tt

pub returns-clause-damage : goal.returns-clause-damage
returns-clause-damage g c = subst NotDamaged (sym c.end_answer.ensures) (whole_end c.merge_end.result c.merge_end.ensures.whole)

pub returns-then-not-is_merging-clause-still : goal.returns-then-not-is_merging-clause-still
returns-then-not-is_merging-clause-still g c = still_same _ _ _

pub returns-in_err-put_ok-clause-still : goal.returns-in_err-put_ok-clause-still
returns-in_err-put_ok-clause-still g c =
    let p = err_from_is_err_and c.from_residual.result c.from_residual.ensures.1 in
    fault_keeps _ _ _ (p.1 ∙ ap (λ (e : PageFault). Err e) p.2)

pub returns-clause-still : goal.returns-clause-still
returns-clause-still g c =
    let some = sym c.is_merging.ensures ∙ c.if-not-is_merging.false in
    answer_keeps _ _ _ c.end_answer.ensures
    (end_keeps _ c.merge_end.result (λ e. both_ways (is_some c.self.inside.set.begun) (c.merge_end.ensures.not_begun.0 e) some))

pub returns-then-not-is_merging-clause-unread : goal.returns-then-not-is_merging-clause-unread
returns-then-not-is_merging-clause-unread g c = refl

pub returns-in_err-put_ok-clause-unread : goal.returns-in_err-put_ok-clause-unread
returns-in_err-put_ok-clause-unread g c =
    let p = err_from_is_err_and c.from_residual.result c.from_residual.ensures.1 in
    fault_keeps _ _ _ (p.1 ∙ ap (λ (e : PageFault). Err e) p.2)

pub returns-clause-unread : goal.returns-clause-unread
returns-clause-unread g c =
    let some = sym c.is_merging.ensures ∙ c.if-not-is_merging.false in
    answer_keeps _ _ _ c.end_answer.ensures
    (end_keeps _ c.merge_end.result (λ e. both_ways (is_some c.self.inside.set.begun) (c.merge_end.ensures.not_begun.0 e) some))

pub returns-then-not-is_merging-clause-barred : goal.returns-then-not-is_merging-clause-barred
returns-then-not-is_merging-clause-barred g c none = refl

pub returns-in_err-put_ok-clause-barred : goal.returns-in_err-put_ok-clause-barred
returns-in_err-put_ok-clause-barred g c none =
    absurd (both_ways (is_some c.self.inside.set.begun) (ap (λ (u : SessionData). is_some u.set.begun) c.self.view_is ∙ ap is_some none)
    (sym c.is_merging.ensures ∙ c.if-not-is_merging.false))

pub returns-clause-barred : goal.returns-clause-barred
returns-clause-barred g c none =
    absurd (both_ways (is_some c.self.inside.set.begun) (ap (λ (u : SessionData). is_some u.set.begun) c.self.view_is ∙ ap is_some none)
    (sym c.is_merging.ensures ∙ c.if-not-is_merging.false))

pub returns-in_err-put_ok-clause-left : goal.returns-in_err-put_ok-clause-left
returns-in_err-put_ok-clause-left g c = on_err_any _ c.from_residual.result (record { is = refl })

pub returns-clause-left : goal.returns-clause-left
returns-clause-left g c =
    subst (λ r. OnErr r (IsAsBefore c.args.self.now.set c.merge_end.new.self)) (sym c.end_answer.ensures)
    (end_left _ _ c.merge_end.result (λ same. subst (λ (u : SessionData). IsAsBefore u.set c.merge_end.new.self) c.self.view_is same)
    c.merge_end.ensures.rest)

pub returns-then-not-is_merging-clause-lasts : goal.returns-then-not-is_merging-clause-lasts
returns-then-not-is_merging-clause-lasts g c told faithful = lasts_itself _ _ _ _

pub returns-in_err-put_ok-clause-lasts : goal.returns-in_err-put_ok-clause-lasts
returns-in_err-put_ok-clause-lasts g c told faithful = lasts_itself _ _ _ _

pub returns-clause-lasts : goal.returns-clause-lasts
returns-clause-lasts g c = lasts_seen _ _ _ _ _ _ _ c.self.view_is
    (writes_last _ _ _ _ _ _ c.leaf_size-leaf_size.ensures.well c.merge_end.ensures.rewrites)
