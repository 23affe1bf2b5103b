-- A document is added, where the set is not full.
use Rattle.std.proofs.Common.{◌++◌, length, All, Err, refl, sym, ap, ◌∙◌}
use Rattle.std.proofs.lemmas.Result.{err_from_is_err_and}
use Rattle.page_cache.specs.declared.faults.PageFault.{PageFault}
use Rattle.std.proofs.Common.{◌≡◌, ◌+◌, ◌^◌, nat_lt, false}
use Rattle.script_lang.specs.Replies.{doc_text}
use Rattle.script_lang.specs.declared.faults.Refusal.TheVariants as why
use Rattle.index_core.specs.Sessions.{SessionData}
use Rattle.index_core.proofs.Answering.{applies_is, applies_memory, applies_merging, applies_refused, applies_seen, begins_with}
use Rattle.index_core.proofs.FaultCauses.{cause_add, whole_add}
use Rattle.index_core.proofs.Guarding.{grows_added}
use Rattle.index_core.proofs.Changing.{does_add, does_full, not_full}
use Rattle.segment_set.proofs.Sizes.{set_fits}
use Rattle.segment_set.specs.Sets.{IsNamed, IsWell}
use Rattle.std.proofs.Common.{lit<}
use Rattle.index_core.proofs.Bringing.{brings_written}
use Rattle.std.proofs.Common.{◌≤◌, IsTrue, subst}
use Rattle.page_cache.specs.declared.faults.PageFault.TheVariants as page
use Rattle.index_core.specs.Replies.{add_answer}
use Rattle.index_core.specs.Damages.{ShowsMerge}
use Rattle.index_core.proofs.Showing.{add_shows, damage_to, merge_none}
use Rattle.index_core.proofs.Keeping.{add_keeps, answer_keeps, fault_keeps, still_same}
use Rattle.index_core.proofs.Lightly.{light_added, light_same}
use Rattle.std.proofs.lemmas.Bool.{both_ways, lt-ltb}
use Rattle.std.proofs.Common.{OnErr, OnOk}
use Rattle.std.proofs.lemmas.Result.{on_ok_weaker}
use Rattle.index_core.specs.Arranged.{HasAdded, IsArranged}
use Rattle.index_core.specs.Effects.{OnDone}
use Rattle.index_core.proofs.Arranging.{add_done, add_left, arranged_left, arranged_same, arranged_seen, on_err_any, undone_any}
use Rattle.index_core.proofs.Lasting.{lasts_itself, lasts_seen, writes_last}
use Rattle.index_core.proofs.Carrying.{views_named}
use Rattle.index_core.proofs.session.Session.add.Goals as goal

pub returns-then-is_full-clause-applies : goal.returns-then-is_full-clause-applies
returns-then-is_full-clause-applies g c =
    applies_refused _ _ _ _ _ _ _ why.Full (λ i seen. does_full _ _ _ i _ _ seen (sym c.is_full.ensures.full ∙ c.if-is_full.true))

pub returns-in_err-put_doc-clause-applies : goal.returns-in_err-put_doc-clause-applies
returns-in_err-put_doc-clause-applies g c =
    let p = err_from_is_err_and c.from_residual.result c.from_residual.ensures.1 in
    applies_memory _ _ _ _ _ _ _ _ _ (p.1 ∙ ap (λ (e : PageFault). Err e) p.2) c.in_err-put_doc.ensures.memory

pub returns-clause-applies : goal.returns-clause-applies
returns-clause-applies g c =
    let fits : nat_lt (2 ^ 24) (c.self.inside.set.points_given + length c.args.points.now) ≡ false =
    ap (λ (u : SessionData). nat_lt (2 ^ 24) (u.set.points_given + length c.args.points.now)) c.self.view_is
    ∙ sym c.is_full.ensures.full ∙ c.if-is_full.false in
    let full = not_full c.add.result (c.self.inside.set.points_given + length c.args.points.now) fits c.add.ensures.full.full in
    applies_is _ _ _ _ _ _ _ _ c.add_answer.ensures
    (applies_seen _ _ _ _ _ _ _ _ _ _ _ c.self.view_is
    (applies_merging _ _ _ _ _ _
    (record {
      commit = refl;
      refused = refl;
      grows = grows_added _ _ _ _ c.add.result c.add.ensures.rest.leaf_size c.add.ensures.gives.points_given c.add.ensures.left.stays;
      keeps = c.add.ensures.rewrites.kept;
      follows = c.add.ensures.rewrites.follows;
      brings = λ told. brings_written _ _ _ _ _ _ _ _ told c.add.ensures.rewrites.kept c.add.ensures.rewrites.follows (c.add.ensures.rewrites.canon told);
      views = λ told. views_named _ _ _ _ c.self.inside.set c.add.new.self told c.add.ensures.rewrites.kept
          (subst (λ (u : SessionData). IsWell g.row.D u.set) (sym c.self.view_is) c.is_full.ensures.well) c.add.ensures.rest.snapshots;
      counts = λ told faithful. c.add.ensures.rewrites.counts told
          (subst (λ (u : SessionData). IsWell g.row.D u.set) (sym c.self.view_is) c.is_full.ensures.well) faithful;
      faithful = c.add.ensures.rewrites.faithful;
    })
    (subst (λ (u : SessionData). All (IsNamed u.set.names) u.set.parts) (sym c.self.view_is) c.is_full.ensures.well.named)
    (λ told i seen. does_add _ _ _ _ _ i _ c.add.result _ _ seen fits full (c.add.ensures.seen told i seen) (c.add.ensures.refused told i seen)
    (c.in_ok-put_doc.ensures.ok ∙ ap (λ n. c.args.out.now.items ++ doc_text n) c.next.ensures))
    (begins_with _ _ _ c.in_ok-put_doc.ensures.ok)
    (cause_add _ _ c.add.result full c.add.ensures.cause)
    (λ told i seen. whole_add c.add.result (c.add.ensures.damaged.whole told i seen))
    (add_shows _ c.add.result c.add.ensures.damaged.evident)))

pub next-requires : goal.next-requires
next-requires g c = set_fits g.row.D c.self.invariant.few

pub add-requires-after_bounds : goal.add-requires-after_bounds
add-requires-after_bounds g c κs = λ _. (set_fits g.row.D c.self.invariant.few, lit< tt)

pub returns-then-is_full-clause-reads : goal.returns-then-is_full-clause-reads
returns-then-is_full-clause-reads g c room = refl

pub returns-in_err-put_doc-clause-reads : goal.returns-in_err-put_doc-clause-reads
returns-in_err-put_doc-clause-reads g c room = refl

pub returns-clause-reads : goal.returns-clause-reads
returns-clause-reads g c =
    subst (λ (u : SessionData). length u.set.buffer + length c.args.points.now ≤ 16384 → g.F.Pages.reads c.add.new.folder ≡ g.F.Pages.reads c.args.folder.now)
    c.self.view_is c.add.ensures.in_room.unread

pub returns-then-is_full-clause-damage : goal.returns-then-is_full-clause-damage
returns-then-is_full-clause-damage g c = merge_none _ _ _ _ _ _ tt

pub returns-in_err-put_doc-clause-damage : goal.returns-in_err-put_doc-clause-damage
returns-in_err-put_doc-clause-damage g c =
    let p = err_from_is_err_and c.from_residual.result c.from_residual.ensures.1 in
    merge_none _ _ _ _ _ _ (damage_to _ _ page.Memory (p.1 ∙ ap (λ (e : PageFault). Err e) p.2) tt)

pub returns-clause-damage : goal.returns-clause-damage
returns-clause-damage g c =
    subst (ShowsMerge g.row.D (IsTrue g.F.Pages.told) (g.F.Pages.files c.args.folder.now) (g.F.Pages.files c.add.new.folder) c.args.self.now.set
    c.add.new.self)
    (sym c.add_answer.ensures)
    (subst (λ (u : SessionData).
    ShowsMerge g.row.D (IsTrue g.F.Pages.told) (g.F.Pages.files c.args.folder.now) (g.F.Pages.files c.add.new.folder) u.set c.add.new.self
    (add_answer c.add.result))
    c.self.view_is
    (record {
      shown = add_shows _ c.add.result c.add.ensures.damaged.shown;
      damage = λ told agrees. add_shows _ c.add.result (c.add.ensures.damaged.damage told agrees);
      doubled = λ told agrees contents read. add_shows _ c.add.result (c.add.ensures.damaged.doubled told agrees contents read);
    }))

pub returns-then-is_full-clause-still : goal.returns-then-is_full-clause-still
returns-then-is_full-clause-still g c = still_same _ _ _

pub returns-in_err-put_doc-clause-still : goal.returns-in_err-put_doc-clause-still
returns-in_err-put_doc-clause-still g c =
    let p = err_from_is_err_and c.from_residual.result c.from_residual.ensures.1 in
    fault_keeps _ _ _ (p.1 ∙ ap (λ (e : PageFault). Err e) p.2)

pub returns-clause-still : goal.returns-clause-still
returns-clause-still g c =
    let fits : nat_lt (2 ^ 24) (c.self.inside.set.points_given + length c.args.points.now) ≡ false =
    ap (λ (u : SessionData). nat_lt (2 ^ 24) (u.set.points_given + length c.args.points.now)) c.self.view_is
    ∙ sym c.is_full.ensures.full ∙ c.if-is_full.false in
    answer_keeps _ _ _ c.add_answer.ensures
    (add_keeps _ c.add.result (not_full c.add.result (c.self.inside.set.points_given + length c.args.points.now) fits c.add.ensures.full.full))

pub returns-then-is_full-clause-light : goal.returns-then-is_full-clause-light
returns-then-is_full-clause-light g c room = light_same _ _ _ _

pub returns-in_err-put_doc-clause-light : goal.returns-in_err-put_doc-clause-light
returns-in_err-put_doc-clause-light g c room = light_same _ _ _ _

pub returns-clause-light : goal.returns-clause-light
returns-clause-light g c = light_added _ _ _ _ _ _ _ c.self.view_is c.add.ensures.in_room.unwritten c.add.ensures.rest.snapshots c.add.ensures.in_room.parts

pub returns-then-is_full-clause-unread : goal.returns-then-is_full-clause-unread
returns-then-is_full-clause-unread g c = refl

pub returns-in_err-put_doc-clause-unread : goal.returns-in_err-put_doc-clause-unread
returns-in_err-put_doc-clause-unread g c =
    let p = err_from_is_err_and c.from_residual.result c.from_residual.ensures.1 in
    fault_keeps _ _ _ (p.1 ∙ ap (λ (e : PageFault). Err e) p.2)

pub returns-clause-unread : goal.returns-clause-unread
returns-clause-unread g c =
    let fits : nat_lt (2 ^ 24) (c.self.inside.set.points_given + length c.args.points.now) ≡ false =
    ap (λ (u : SessionData). nat_lt (2 ^ 24) (u.set.points_given + length c.args.points.now)) c.self.view_is
    ∙ sym c.is_full.ensures.full ∙ c.if-is_full.false in
    answer_keeps _ _ _ c.add_answer.ensures
    (add_keeps _ c.add.result (not_full c.add.result (c.self.inside.set.points_given + length c.args.points.now) fits c.add.ensures.full.full))

pub returns-then-is_full-clause-barred : goal.returns-then-is_full-clause-barred
returns-then-is_full-clause-barred g c over = refl

pub returns-in_err-put_doc-clause-barred : goal.returns-in_err-put_doc-clause-barred
returns-in_err-put_doc-clause-barred g c over =
    absurd (both_ways (nat_lt (2 ^ 24) (c.args.self.now.set.points_given + length c.args.points.now)) (sym c.is_full.ensures.full ∙ c.if-is_full.false)
    (lt-ltb (2 ^ 24) (c.args.self.now.set.points_given + length c.args.points.now) over))

pub returns-clause-barred : goal.returns-clause-barred
returns-clause-barred g c over =
    absurd (both_ways (nat_lt (2 ^ 24) (c.args.self.now.set.points_given + length c.args.points.now)) (sym c.is_full.ensures.full ∙ c.if-is_full.false)
    (lt-ltb (2 ^ 24) (c.args.self.now.set.points_given + length c.args.points.now) over))

pub returns-in_err-put_doc-clause-left : goal.returns-in_err-put_doc-clause-left
returns-in_err-put_doc-clause-left g c = on_err_any _ c.from_residual.result (arranged_same _ _ _ _ _ refl)

pub returns-in_err-put_doc-clause-leaves : goal.returns-in_err-put_doc-clause-leaves
returns-in_err-put_doc-clause-leaves g c =
    let p = err_from_is_err_and c.from_residual.result c.from_residual.ensures.1 in
    undone_any _ _ _ (p.1 ∙ ap (λ (e : PageFault). Err e) p.2)

pub returns-clause-left : goal.returns-clause-left
returns-clause-left g c =
    subst (λ r. OnErr r (IsArranged g.row.D (IsTrue g.F.Pages.told) (g.F.Pages.files c.args.folder.now) c.args.self.now.set c.add.new.self))
    (sym c.add_answer.ensures)
    (add_left _ _ c.add.result (λ left. arranged_seen _ _ _ _ _ _ c.self.view_is (arranged_left _ _ _ _ _ left)) c.add.ensures.left.left)

pub returns-clause-leaves : goal.returns-clause-leaves
returns-clause-leaves g c =
    subst (λ r. OnDone r (HasAdded g.row.D (IsTrue g.F.Pages.told) c.args.points.now (g.F.Pages.files c.args.folder.now) c.args.self.now.set c.add.new.self))
    (sym c.add_answer.ensures)
    (add_done _ c.add.result (subst (λ (u : SessionData).
    OnOk c.add.result (HasAdded g.row.D (IsTrue g.F.Pages.told) c.args.points.now (g.F.Pages.files c.args.folder.now) u.set c.add.new.self)) c.self.view_is
    (on_ok_weaker c.add.result (λ added. record { at = added.0; flushes = added.1; is = added.2 }) c.add.ensures.added)))

pub returns-then-is_full-clause-lasts : goal.returns-then-is_full-clause-lasts
returns-then-is_full-clause-lasts g c told faithful = lasts_itself _ _ _ _

pub returns-in_err-put_doc-clause-lasts : goal.returns-in_err-put_doc-clause-lasts
returns-in_err-put_doc-clause-lasts g c told faithful = lasts_itself _ _ _ _

pub returns-clause-lasts : goal.returns-clause-lasts
returns-clause-lasts g c = lasts_seen _ _ _ _ _ _ _ c.self.view_is
    (writes_last _ _ _ _ _ _ (subst (λ (u : SessionData). IsWell g.row.D u.set) (sym c.self.view_is) c.is_full.ensures.well) c.add.ensures.rewrites)
