-- A merge is begun, where none is.
use Rattle.std.proofs.Common.{Err, refl, sym, ap, subst, ◌∙◌}
use Rattle.std.proofs.lemmas.Result.{err_from_is_err_and}
use Rattle.page_cache.specs.declared.faults.PageFault.{PageFault}
use Rattle.std.proofs.Common.{is_some}
use Rattle.std.proofs.lemmas.Bool.{both_ways}
use Rattle.script_lang.specs.declared.faults.Refusal.TheVariants as why
use Rattle.segment_set.specs.Sets.{SetData}
use Rattle.outer_io.specs.Files.{Files}
use Rattle.outer_io.specs.declared.file_name.FileName.TheVariants.{Segment}
use Rattle.segment_set.proofs.Carried.{follows_same}
use Rattle.segment_set.proofs.Counts.{counts_same}
use Rattle.index_core.proofs.Answering.{applies_is, applies_memory, applies_merging_calm, applies_refused}
use Rattle.index_core.proofs.Answering.{applies_seen, begins_with}
use Rattle.index_core.proofs.FaultCauses.{cause_begin, whole_begin}
use Rattle.index_core.proofs.CalmCalls.{calm_like}
use Rattle.index_core.proofs.Changing.{does_begin, does_begun}
use Rattle.segment_set.proofs.Sizes.{set_fits}
use Rattle.index_core.specs.Sessions.{SessionData}
use Rattle.index_core.specs.Effects.{HasBegun, OnDone}
use Rattle.index_core.specs.Replies.{begin_answer}
use Rattle.index_core.proofs.Leaving.{begin_leaves}
use Rattle.index_core.proofs.Bringing.{brings_same}
use Rattle.std.proofs.Common.{IsTrue}
use Rattle.page_cache.specs.declared.faults.PageFault.TheVariants as page
use Rattle.index_core.specs.Damages.{ShowsMerge}
use Rattle.index_core.proofs.Showing.{begin_shows, damage_to, merge_none}
use Rattle.index_core.proofs.Keeping.{answer_keeps, begin_keeps, fault_keeps, still_same}
use Rattle.index_core.proofs.Guarding.{grows_same}
use Rattle.std.proofs.Common.{OnErr}
use Rattle.segment_set.specs.Kept.{StaysButCache}
use Rattle.index_core.proofs.Arranging.{begin_left, on_err_any}
use Rattle.index_core.proofs.Carrying.{views_same}
use Rattle.index_core.proofs.session.Session.merge_begin.Goals as goal

pub returns-then-is_merging-clause-applies : goal.returns-then-is_merging-clause-applies
returns-then-is_merging-clause-applies g c = applies_refused _ _ _ _ _ _ _ why.Begun
    (λ i seen.
    does_begun _ _ _ i _ _ seen (ap (λ (u : SessionData). is_some u.set.begun) (sym c.self.view_is) ∙ sym c.is_merging.ensures ∙ c.if-is_merging.true))

pub returns-in_err-put_ok-clause-applies : goal.returns-in_err-put_ok-clause-applies
returns-in_err-put_ok-clause-applies g c =
    let p = err_from_is_err_and c.from_residual.result c.from_residual.ensures.1 in
    applies_memory _ _ _ _ _ _ _ _ _ (p.1 ∙ ap (λ (e : PageFault). Err e) p.2) c.in_err-put_ok.ensures.memory

pub returns-clause-applies : goal.returns-clause-applies
returns-clause-applies g c =
    let none = sym c.is_merging.ensures ∙ c.if-is_merging.false in
    applies_is _ _ _ _ _ _ _ _ c.begin_answer.ensures
    (applies_seen _ _ _ _ _ _ _ _ _ _ _ c.self.view_is
    (applies_merging_calm _ _ _ _ _ _
    (calm_like _ _ _ _ _ _ _ _ _ _ _ _ (ap (λ (u : SetData). u.names) c.merge_begin.ensures.rest.is)
    (grows_same _ _ (ap (λ (u : SetData). u.leaf_size) c.merge_begin.ensures.rest.is) (ap (λ (u : SetData). u.next) c.merge_begin.ensures.rest.is)
    (ap (λ (u : SetData). u.points_given) c.merge_begin.ensures.rest.is))
    (follows_same _ _ _ (ap (λ (u : SetData). u.parts) c.merge_begin.ensures.rest.is)) c.merge_begin.ensures.files
    (λ told. brings_same _ _ _ _ _ (c.merge_begin.ensures.files told) (ap (λ (u : SetData). u.parts) c.merge_begin.ensures.rest.is))
    (λ told. views_same _ _ c.self.inside.set c.merge_begin.new.self (c.merge_begin.ensures.files told)
    (ap (λ (u : SetData). u.snapshots) c.merge_begin.ensures.rest.is))
    (λ told. counts_same _ _ _ c.self.inside.set c.merge_begin.new.self (ap (λ (u : SetData). u.parts) c.merge_begin.ensures.rest.is)
    (ap (λ (u : SetData). u.buffer) c.merge_begin.ensures.rest.is) (ap (λ (u : SetData). u.points_given) c.merge_begin.ensures.rest.is)
    (λ p there. ap (λ (f : Files). f (Segment p.head.id)) (c.merge_begin.ensures.files told)))
    c.merge_begin.ensures.faithful)
    c.merge_begin.ensures.files
    (λ told i seen.
    does_begin _ _ _ _ _ i _ c.merge_begin.result _ _ seen none (λ e. both_ways (is_some c.self.inside.set.begun) none (c.merge_begin.ensures.begun.0 e))
    (c.merge_begin.ensures.seen told i seen) (c.merge_begin.ensures.refused told i seen) c.in_ok-put_ok.ensures.ok)
    (begins_with _ _ _ c.in_ok-put_ok.ensures.ok)
    (cause_begin _ _ c.merge_begin.result (λ e. both_ways (is_some c.self.inside.set.begun) none (c.merge_begin.ensures.begun.0 e)) c.merge_begin.ensures.cause)
    (λ told i seen. whole_begin c.merge_begin.result (c.merge_begin.ensures.damaged.whole told i seen))
    (begin_shows _ c.merge_begin.result c.merge_begin.ensures.damaged.evident)))

pub is_merging-requires : goal.is_merging-requires
is_merging-requires g c = set_fits g.row.D c.self.invariant.few

pub merge_begin-requires-after_bounds : goal.merge_begin-requires-after_bounds
merge_begin-requires-after_bounds g c κs = λ _. set_fits g.row.D c.self.invariant.few

pub returns-clause-leaves : goal.returns-clause-leaves
returns-clause-leaves g c =
    let files = g.F.Pages.files c.args.folder.now in
    subst (λ r. OnDone r (HasBegun g.row.D (IsTrue g.F.Pages.told) files c.args.which.now c.args.self.now.set c.merge_begin.new.self))
    (sym c.begin_answer.ensures)
    (subst (λ (s : SessionData).
    OnDone (begin_answer c.merge_begin.result) (HasBegun g.row.D (IsTrue g.F.Pages.told) files c.args.which.now s.set c.merge_begin.new.self)) c.self.view_is
    (begin_leaves g.row.D (IsTrue g.F.Pages.told) files c.args.which.now c.self.inside.set c.merge_begin.new.self c.merge_begin.result
    c.merge_begin.ensures.inputs c.merge_begin.ensures.built c.merge_begin.ensures.rest))

pub returns-then-is_merging-clause-damage : goal.returns-then-is_merging-clause-damage
returns-then-is_merging-clause-damage g c = merge_none _ _ _ _ _ _ tt

pub returns-in_err-put_ok-clause-damage : goal.returns-in_err-put_ok-clause-damage
returns-in_err-put_ok-clause-damage g c =
    let p = err_from_is_err_and c.from_residual.result c.from_residual.ensures.1 in
    merge_none _ _ _ _ _ _ (damage_to _ _ page.Memory (p.1 ∙ ap (λ (e : PageFault). Err e) p.2) tt)

pub returns-clause-damage : goal.returns-clause-damage
returns-clause-damage g c =
    subst (ShowsMerge g.row.D (IsTrue g.F.Pages.told) (g.F.Pages.files c.args.folder.now) (g.F.Pages.files c.merge_begin.new.folder) c.args.self.now.set
    c.merge_begin.new.self)
    (sym c.begin_answer.ensures)
    (subst (λ (u : SessionData).
    ShowsMerge g.row.D (IsTrue g.F.Pages.told) (g.F.Pages.files c.args.folder.now) (g.F.Pages.files c.merge_begin.new.folder) u.set c.merge_begin.new.self
    (begin_answer c.merge_begin.result)) c.self.view_is
    (record {
      shown = begin_shows _ c.merge_begin.result c.merge_begin.ensures.damaged.shown;
      damage = λ told agrees. begin_shows _ c.merge_begin.result (c.merge_begin.ensures.damaged.damage told agrees);
      doubled = λ told agrees contents read. begin_shows _ c.merge_begin.result (c.merge_begin.ensures.damaged.doubled told agrees contents read);
    }))

pub returns-then-is_merging-clause-still : goal.returns-then-is_merging-clause-still
returns-then-is_merging-clause-still g c = still_same _ _ _

pub returns-in_err-put_ok-clause-still : goal.returns-in_err-put_ok-clause-still
returns-in_err-put_ok-clause-still g c =
    let p = err_from_is_err_and c.from_residual.result c.from_residual.ensures.1 in
    fault_keeps _ _ _ (p.1 ∙ ap (λ (e : PageFault). Err e) p.2)

pub returns-clause-still : goal.returns-clause-still
returns-clause-still g c =
    let none = sym c.is_merging.ensures ∙ c.if-is_merging.false in
    answer_keeps _ _ _ c.begin_answer.ensures
    (begin_keeps _ c.merge_begin.result (λ e. both_ways (is_some c.self.inside.set.begun) none (c.merge_begin.ensures.begun.0 e)))

pub returns-then-is_merging-clause-unread : goal.returns-then-is_merging-clause-unread
returns-then-is_merging-clause-unread g c = refl

pub returns-in_err-put_ok-clause-unread : goal.returns-in_err-put_ok-clause-unread
returns-in_err-put_ok-clause-unread g c =
    let p = err_from_is_err_and c.from_residual.result c.from_residual.ensures.1 in
    fault_keeps _ _ _ (p.1 ∙ ap (λ (e : PageFault). Err e) p.2)

pub returns-clause-unread : goal.returns-clause-unread
returns-clause-unread g c =
    let none = sym c.is_merging.ensures ∙ c.if-is_merging.false in
    answer_keeps _ _ _ c.begin_answer.ensures
    (begin_keeps _ c.merge_begin.result (λ e. both_ways (is_some c.self.inside.set.begun) none (c.merge_begin.ensures.begun.0 e)))

pub returns-in_err-put_ok-clause-left : goal.returns-in_err-put_ok-clause-left
returns-in_err-put_ok-clause-left g c = on_err_any _ c.from_residual.result (record { is = refl })

pub returns-clause-left : goal.returns-clause-left
returns-clause-left g c =
    subst (λ r. OnErr r (StaysButCache c.args.self.now.set c.merge_begin.new.self)) (sym c.begin_answer.ensures)
    (begin_left _ _ c.merge_begin.result (λ same. subst (λ (u : SessionData). StaysButCache u.set c.merge_begin.new.self) c.self.view_is same)
    c.merge_begin.ensures.stays)

pub returns-then-is_merging-clause-files : goal.returns-then-is_merging-clause-files
returns-then-is_merging-clause-files g c told = refl

pub returns-in_err-put_ok-clause-files : goal.returns-in_err-put_ok-clause-files
returns-in_err-put_ok-clause-files g c told = refl

pub returns-clause-files : goal.returns-clause-files
returns-clause-files g c = c.merge_begin.ensures.files
