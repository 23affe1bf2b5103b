-- What is stored is attached anew.
use Rattle.std.proofs.Common.{◌≡◌, Err, Some, is_some, refl, sym, ap, subst, ◌∙◌, ◌⊎◌, inr}
use Rattle.std.proofs.lemmas.Result.{err_from_is_err_and}
use Rattle.page_cache.specs.declared.faults.PageFault.{PageFault}
use Rattle.outer_io.specs.Files.{Files}
use Rattle.script_lang.specs.Replies.{ok_text}
use Rattle.index_model.specs.State.{at_rest}
use Rattle.index_model.specs.Step.{step_on}
use Rattle.index_model.specs.declared.session.Applied.TheVariants as applied
use Rattle.stored_index.specs.Stored.{IsStored}
use Rattle.stored_index.specs.Kept.{SameKept}
use Rattle.segment_set.specs.Seen.{Sees}
use Rattle.segment_set.specs.Faithful.{IsFaithful}
use Rattle.index_opening.proofs.Evident.{on_evident_files, on_evident_wider}
use Rattle.index_core.specs.Carried.{Carries, IsFileOf}
use Rattle.index_core.specs.Sessions.{Guards, IsCommitAnew, IsSetTraced, IsUnchanged, SessionData}
use Rattle.index_core.specs.Effects.{BringsCanonical}
use Rattle.index_core.proofs.Bringing.{brings_anew, brings_then}
use Rattle.index_core.specs.Steps.{SaysCommit}
use Rattle.index_core.proofs.Answering.{applies_is, begins_itself, begins_same, begins_with, does_done, does_fault}
use Rattle.index_core.proofs.FaultCauses.{done_cause, fault_to, memory_cause}
use Rattle.segment_set.proofs.Sizes.{set_fits}
use Rattle.index_core.proofs.Sizes.{session_fits}
use Rattle.page_cache.specs.Evidence.{FaultShows}
use Rattle.page_cache.specs.declared.faults.PageFault.TheVariants as page
use Rattle.index_opening.specs.Damages.{IsAttachDamageOf}
use Rattle.index_core.proofs.Showing.{anew_attached, anew_none, anew_saved, damage_to}
use Rattle.index_core.specs.Light.{CommitsFewOfLevels}
use Rattle.index_core.proofs.Keeping.{fault_keeps}
use Rattle.index_core.proofs.Closing.{as_same, guards_renamed, renamed, renew_named}
use Rattle.segment_set.specs.Kept.{IsAsCommitted}
use Rattle.segment_set.specs.Sets.{SetData}
use Rattle.index_core.proofs.Arranging.{on_err_any}
use Rattle.index_core.specs.Lasting.{Lasts}
use Rattle.index_core.proofs.Lasting.{NoneGoes}
use Rattle.index_core.proofs.LosingNone.{lasts_then}
use Rattle.index_core.proofs.Renewed.{attached_last, brings_read, lasting_read, lasts_read, own_read, stays_read}
use Rattle.index_core.proofs.session.Session.reopen.Given as given
use Rattle.segment_view.specs.LiveSegments.{ids_of}
use Rattle.index_core.proofs.Carrying.{carries_anew, carries_then}
use Rattle.index_core.proofs.session.Session.reopen.Goals as goal
use Rattle.segment_set.proofs.Saving.{cause_after}

pub attach_anew-requires : goal.attach_anew-requires
attach_anew-requires g c =
    (session_fits g.row.D c.self.invariant.few, (set_fits g.row.D c.self.invariant.few, ap is_some c.in_ok-commit.ensures.done.unchanged.is))

pub returns-in_err-commit-clause-applies : goal.returns-in_err-commit-clause-applies
returns-in_err-commit-clause-applies g c =
    let p = err_from_is_err_and c.from_residual.result c.from_residual.ensures.1 in
    applies_is _ _ _ _ _ _ _ _ (p.1 ∙ ap (λ (e : PageFault). Err e) p.2) (record {
      does = λ told i seen guards. does_fault _ _ _ i _ _ _ _ (c.commit.ensures.seen told i seen);
      begins = begins_itself _;
      stays = c.commit.ensures.stays;
      keeps = record {
        kept = c.in_err-commit.ensures.durable.kept;
        stored = λ told i seen guards e. c.in_err-commit.ensures.durable.stored told i seen guards;
        own = c.commit.ensures.durable.own;
        lasting = c.commit.ensures.durable.lasting;
      };
      commits = λ e. record {
        idle = λ told unchanged. (c.commit.ensures.idle unchanged).2;
        unchanged = tt;
        anew = λ changed. tt;
        levels = λ changed none. tt;
      };
      canon = λ told i seen guards. c.commit.ensures.canon told;
      faults = record {
        cause = fault_to _ _ c.in_err-commit.field-0.0 c.in_err-commit.ensures.faults.cause;
        whole = λ told i seen guards. c.in_err-commit.ensures.faults.whole told i seen;
        evident = on_evident_wider {X = Unit {0}} (IsFileOf _ _ _) _ _ _ (Err c.in_err-commit.field-0.0) (λ t. t) c.in_err-commit.ensures.faults.evident;
      };
    })

pub returns-in_err-set-clause-applies : goal.returns-in_err-set-clause-applies
returns-in_err-set-clause-applies g c =
    let p = err_from_is_err_and c.from_residual-in_err-set.result c.from_residual-in_err-set.ensures.1 in
    applies_is _ _ _ _ _ _ _ _ (p.1 ∙ ap (λ (e : PageFault). Err e) p.2) (record {
      does = λ told i seen guards. does_fault _ _ _ i _ _ _ _
          (subst (λ (f : Files). Sees g.row.D f c.commit.new.self.set i) (sym (c.attach_anew.ensures.files told)) (c.commit.ensures.seen told i seen));
      begins = begins_itself _;
      stays = stays_read _ _ _ _ _ _ _ c.attach_anew.ensures.files c.commit.ensures.stays;
      keeps = record {
        kept = λ told guards. subst (λ (f : Files). SameKept (g.F.Pages.files c.args.folder.now) f ⊎ SaysCommit f c.commit.new.self.set.saved)
            (sym (c.attach_anew.ensures.files told)) (c.commit.ensures.flight told guards);
        stored = λ told i seen guards e.
            inr (subst (λ (f : Files). IsStored f (Some (at_rest i))) (sym (c.attach_anew.ensures.files told))
            (c.in_ok-commit.ensures.durable.stored told i seen guards).0);
        own = own_read _ _ _ _ _ _ c.attach_anew.ensures.files c.commit.ensures.durable.own;
        lasting = lasting_read _ _ _ _ _ _ c.attach_anew.ensures.files c.commit.ensures.durable.lasting;
      };
      commits = λ e. record {
        idle = λ told unchanged. c.attach_anew.ensures.files told ∙ (c.commit.ensures.idle unchanged).2;
        unchanged = tt;
        anew = λ changed. tt;
        levels = λ changed none. tt;
      };
      canon = λ told i seen guards. brings_read _ _ _ _ _ c.args.self.now c.attach_anew.ensures.files c.commit.new.self.set told (c.commit.ensures.canon told);
      faults = record {
        cause = fault_to _ _ c.in_err-set.field-0.0 (cause_after _ _ _ _ c.in_ok-commit.ensures.faults.cause.on_ok c.in_err-set.ensures.cause);
        whole = λ told i seen owed.
            let guards = owed refl in
            c.in_err-set.ensures.whole told c.in_ok-commit.ensures.done.unchanged.done (c.commit.ensures.stays.guards told guards) (Some (at_rest i))
            (c.in_ok-commit.ensures.durable.stored told i seen guards).0;
        evident = on_evident_wider {X = Unit {0}} (IsFileOf _ _ _) _ _ _ (Err c.in_err-set.field-0.0)
            (λ (told, trusts). (told, c.in_ok-commit.ensures.done.unchanged.done, c.commit.ensures.stays.guards told trusts.guards))
            (on_evident_files {X = Unit {0}} _ _ _ _ (Err c.in_err-set.field-0.0) (λ t. t) (λ t. c.attach_anew.ensures.files t.0) c.in_err-set.ensures.evident);
      };
    })

pub returns-in_err-put_ok-clause-applies : goal.returns-in_err-put_ok-clause-applies
returns-in_err-put_ok-clause-applies g c =
    let p = err_from_is_err_and c.from_residual-in_err-put_ok.result c.from_residual-in_err-put_ok.ensures.1 in
    applies_is _ _ _ _ _ _ _ _ (p.1 ∙ ap (λ (e : PageFault). Err e) p.2) (record {
      does = λ told i seen guards. does_fault _ _ _ i _ _ _ _
          (subst (λ (f : Files). Sees g.row.D f c.commit.new.self.set i) (sym (c.attach_anew.ensures.files told)) (c.commit.ensures.seen told i seen));
      begins = begins_same _ _ c.in_err-put_ok.ensures.memory;
      stays = stays_read _ _ _ _ _ _ _ c.attach_anew.ensures.files c.commit.ensures.stays;
      keeps = record {
        kept = λ told guards. subst (λ (f : Files). SameKept (g.F.Pages.files c.args.folder.now) f ⊎ SaysCommit f c.commit.new.self.set.saved)
            (sym (c.attach_anew.ensures.files told)) (c.commit.ensures.flight told guards);
        stored = λ told i seen guards e.
            inr (subst (λ (f : Files). IsStored f (Some (at_rest i))) (sym (c.attach_anew.ensures.files told))
            (c.in_ok-commit.ensures.durable.stored told i seen guards).0);
        own = own_read _ _ _ _ _ _ c.attach_anew.ensures.files c.commit.ensures.durable.own;
        lasting = lasting_read _ _ _ _ _ _ c.attach_anew.ensures.files c.commit.ensures.durable.lasting;
      };
      commits = λ e. record {
        idle = λ told unchanged. c.attach_anew.ensures.files told ∙ (c.commit.ensures.idle unchanged).2;
        unchanged = tt;
        anew = λ changed. tt;
        levels = λ changed none. tt;
      };
      canon = λ told i seen guards. brings_read _ _ _ _ _ c.args.self.now c.attach_anew.ensures.files c.commit.new.self.set told (c.commit.ensures.canon told);
      faults = record {
        cause = memory_cause _ _ (cause_after _ _ _ _ c.in_ok-commit.ensures.faults.cause.on_ok c.attach_anew.ensures.cause).later;
        whole = λ told i seen guards. tt;
        evident = tt;
      };
    })

-- the set that took the place of the one of before
kept : (g : given.Over) (c : goal.After-renew g) → c.renew.new.self ≡ renamed c.commit.new.self.set c.in_ok-set.set
kept g c = c.renew.ensures.kept ∙ ap (λ (u : SessionData). renamed u.set c.in_ok-set.set) c.self.view_is

pub leaf_size-leaf_size-requires : goal.leaf_size-leaf_size-requires
leaf_size-leaf_size-requires g c = set_fits g.row.D c.self.invariant.few

pub renew-requires : goal.renew-requires
renew-requires g c = (
  set_fits g.row.D c.self.invariant.few,
  (let last = c.in_ok-commit.ensures.done.unchanged in
      renew_named _ c.in_ok-set.set last.commit c.leaf_size-leaf_size.ensures.well.named
      (subst (λ (u : SessionData). IsAsCommitted u.set last.commit) (sym c.self.view_is) last.same) (c.in_ok-set.ensures.names last.commit last.is)),
)

pub returns-clause-applies : goal.returns-clause-applies
unfolding step_on
returns-clause-applies g c = record {
  does = λ told i seen owed. let guards = owed refl in does_done _ _ i (at_rest i) _ ok_text _ _
      (subst (λ (f : Files). Sees g.row.D f c.renew.new.self (at_rest i)) (sym (c.attach_anew.ensures.files told))
      (c.renew.ensures.seen
      _ _ (c.in_ok-set.ensures.seen told c.in_ok-commit.ensures.done.unchanged.done (c.commit.ensures.stays.guards told guards) (at_rest i)
      (c.in_ok-commit.ensures.durable.stored told i seen guards).0)))
      c.in_ok-put_ok.ensures.ok;
  begins = begins_with _ _ _ c.in_ok-put_ok.ensures.ok;
  stays = record {
    guards = λ told guards. subst (λ (f : Files). Guards g.row.D f
        (record { set = c.renew.new.self; commit = c.self.inside.commit; refused = c.self.inside.refused })) (sym (c.attach_anew.ensures.files told))
        (subst (λ (u : SessionData). Guards g.row.D (g.F.Pages.files c.commit.new.folder) (record u { set = c.renew.new.self })) (sym c.self.view_is)
        (subst (λ (t : SetData). Guards g.row.D (g.F.Pages.files c.commit.new.folder) (record c.commit.new.self { set = t })) (sym (kept g c))
        (guards_renamed _ _ c.commit.new.self c.in_ok-set.set (c.commit.ensures.stays.guards told guards)
        (c.in_ok-set.ensures.guards told c.in_ok-commit.ensures.done.unchanged.done (c.commit.ensures.stays.guards told guards)))));
    faithful = λ told faithful. subst (λ (f : Files). IsFaithful g.row.D f c.renew.new.self) (sym (c.attach_anew.ensures.files told))
        (c.renew.ensures.faithful _ (c.in_ok-set.ensures.faithful told));
    traced = λ told h. let anew = c.in_ok-set.ensures.traced told c.in_ok-commit.ensures.done.unchanged.done (c.commit.ensures.stays.guards told h.guards) in
        subst (λ (f : Files). IsSetTraced g.row.D f c.renew.new.self) (sym (c.attach_anew.ensures.files told))
        (subst (IsSetTraced g.row.D (g.F.Pages.files c.commit.new.folder)) (sym (kept g c)) (record { parts = anew.parts; entries = anew.entries }));
    carries = λ told. let last = c.in_ok-commit.ensures.done.unchanged in let rest = c.in_ok-set.ensures.unchanged last.commit last.is in
        subst (λ (f : Files). Carries (g.F.Pages.files c.args.folder.now) f c.args.self.now.set c.renew.new.self) (sym (c.attach_anew.ensures.files told))
        (carries_then _ _ _ c.args.self.now.set c.commit.new.self.set c.renew.new.self (c.commit.ensures.stays.carries told)
        (carries_anew _ c.commit.new.self.set c.renew.new.self last.commit last.same
        (ap (λ (u : SetData). ids_of u.parts) (kept g c) ∙ rest.as_committed.ids) (ap (λ (u : SetData). u.snapshots) (kept g c) ∙ rest.snapshots)));
  };
  keeps = record {
    kept = λ told guards. subst (λ (u : SessionData). SaysCommit (g.F.Pages.files c.attach_anew.new.folder) u.commit) (sym c.self.view_is)
        (subst (λ (f : Files). SaysCommit f c.commit.new.self.commit) (sym (c.attach_anew.ensures.files told))
        (c.in_ok-commit.ensures.durable.kept told guards));
    stored = λ told i seen guards e. (
      subst (λ (f : Files). IsStored f (Some (at_rest i))) (sym (c.attach_anew.ensures.files told))
          (c.in_ok-commit.ensures.durable.stored told i seen guards).0,
      ap (λ (u : SetData). u.buffer) (kept g c) ∙ (c.in_ok-set.ensures.unchanged c.in_ok-commit.ensures.done.unchanged.commit
          c.in_ok-commit.ensures.done.unchanged.is).as_committed.empty,
    );
    own = own_read _ _ _ _ _ _ c.attach_anew.ensures.files c.commit.ensures.durable.own;
    lasting = lasting_read _ _ _ _ _ _ c.attach_anew.ensures.files c.commit.ensures.durable.lasting;
  };
  commits = λ e. record {
    idle = λ told unchanged. c.attach_anew.ensures.files told ∙ (c.commit.ensures.idle unchanged).2;
    unchanged = let last = c.in_ok-commit.ensures.done.unchanged in let same = kept g c in
        subst (λ (u : SessionData). IsUnchanged (record u { set = c.renew.new.self })) (sym c.self.view_is)
        (record {
          commit = last.commit;
          is = last.is;
          done = last.done;
          same = as_same c.in_ok-set.set c.renew.new.self last.commit (ap (λ (u : SetData). u.next) same) (ap (λ (u : SetData). u.points_given) same)
              (ap (λ (u : SetData). u.parts) same)
              (ap (λ (u : SetData). u.buffer) same) (c.in_ok-set.ensures.unchanged last.commit last.is).as_committed;
        });
    anew = λ changed. let written = c.in_ok-commit.ensures.done.anew changed in
        subst (λ (u : SessionData). IsCommitAnew c.args.self.now (record u { set = c.renew.new.self })) (sym c.self.view_is)
        (record { commit = written.commit; is = written.is; fresh = written.fresh; kept = written.kept });
    levels = λ changed none. subst (λ (u : SessionData). CommitsFewOfLevels u.commit) (sym c.self.view_is) (c.in_ok-commit.ensures.done.levels changed none);
  };
  canon = λ told i seen guards. let last = c.in_ok-commit.ensures.done.unchanged in
      subst (λ (f : Files). BringsCanonical g.row.D (g.F.Pages.files c.args.folder.now) f c.args.self.now.set.parts c.renew.new.self.parts)
      (sym (c.attach_anew.ensures.files told))
      (subst (λ (u : SetData). BringsCanonical g.row.D (g.F.Pages.files c.args.folder.now) (g.F.Pages.files c.commit.new.folder)
      c.args.self.now.set.parts u.parts) (sym (kept g c))
      (brings_then _ _ _ _ _ c.commit.new.self.set.parts _ (c.commit.ensures.canon told)
      (brings_anew _ _ c.commit.new.self.set c.in_ok-set.set i (at_rest i) (c.commit.ensures.seen told i seen)
      (c.in_ok-set.ensures.seen told c.in_ok-commit.ensures.done.unchanged.done (c.commit.ensures.stays.guards told guards) (at_rest i)
      (c.in_ok-commit.ensures.durable.stored told i seen guards).0)
      ((c.in_ok-set.ensures.unchanged last.commit last.is).as_committed.ids ∙ sym last.same.ids))));
  faults = record {
    cause = done_cause _ _ c.in_ok-set.set applied.Done (cause_after _ _ _ _ c.in_ok-commit.ensures.faults.cause.on_ok c.in_ok-set.ensures.cause);
    whole = λ told i seen guards. tt;
    evident = tt;
  };
}

pub returns-in_err-commit-clause-damage : goal.returns-in_err-commit-clause-damage
returns-in_err-commit-clause-damage g c =
    let p = err_from_is_err_and c.from_residual.result c.from_residual.ensures.1 in
    anew_saved _ _ _ _ _ _ _ c.in_err-commit.field-0.0 (p.1 ∙ ap (λ (e : PageFault). Err e) p.2) c.in_err-commit.ensures.damage

pub returns-in_err-set-clause-damage : goal.returns-in_err-set-clause-damage
returns-in_err-set-clause-damage g c =
    let p = err_from_is_err_and c.from_residual-in_err-set.result c.from_residual-in_err-set.ensures.1 in
    let last = c.in_ok-commit.ensures.done.unchanged in
    anew_attached _ _ _ _ _ _ last.commit _ c.in_err-set.field-0.0 (p.1 ∙ ap (λ (e : PageFault). Err e) p.2) last.is
    (c.in_err-set.ensures.shown last.commit last.is)
    (λ told. subst (λ (f : Files). FaultShows (IsAttachDamageOf f last.commit) c.in_err-set.field-0.0) (sym (c.attach_anew.ensures.files told))
    (c.in_err-set.ensures.damage told last.commit last.is))

pub returns-in_err-put_ok-clause-damage : goal.returns-in_err-put_ok-clause-damage
returns-in_err-put_ok-clause-damage g c =
    let p = err_from_is_err_and c.from_residual-in_err-put_ok.result c.from_residual-in_err-put_ok.ensures.1 in
    anew_none _ _ _ _ _ _ _ (damage_to _ _ page.Memory (p.1 ∙ ap (λ (e : PageFault). Err e) p.2) tt)

pub returns-clause-damage : goal.returns-clause-damage
returns-clause-damage g c = anew_none _ _ _ _ _ _ _ tt

pub returns-in_err-commit-clause-unread : goal.returns-in_err-commit-clause-unread
returns-in_err-commit-clause-unread g c =
    let p = err_from_is_err_and c.from_residual.result c.from_residual.ensures.1 in
    fault_keeps _ _ _ (p.1 ∙ ap (λ (e : PageFault). Err e) p.2)

pub returns-in_err-set-clause-unread : goal.returns-in_err-set-clause-unread
returns-in_err-set-clause-unread g c =
    let p = err_from_is_err_and c.from_residual-in_err-set.result c.from_residual-in_err-set.ensures.1 in
    fault_keeps _ _ _ (p.1 ∙ ap (λ (e : PageFault). Err e) p.2)

pub returns-in_err-put_ok-clause-unread : goal.returns-in_err-put_ok-clause-unread
returns-in_err-put_ok-clause-unread g c =
    let p = err_from_is_err_and c.from_residual-in_err-put_ok.result c.from_residual-in_err-put_ok.ensures.1 in
    fault_keeps _ _ _ (p.1 ∙ ap (λ (e : PageFault). Err e) p.2)

pub returns-in_err-commit-clause-left : goal.returns-in_err-commit-clause-left
returns-in_err-commit-clause-left g c = on_err_any _ c.from_residual.result c.commit.ensures.arranged

pub returns-in_err-set-clause-left : goal.returns-in_err-set-clause-left
returns-in_err-set-clause-left g c = on_err_any _ c.from_residual-in_err-set.result c.commit.ensures.arranged

pub returns-in_err-put_ok-clause-left : goal.returns-in_err-put_ok-clause-left
returns-in_err-put_ok-clause-left g c = on_err_any _ c.from_residual-in_err-put_ok.result c.commit.ensures.arranged

pub returns-in_err-set-clause-lasts : goal.returns-in_err-set-clause-lasts
returns-in_err-set-clause-lasts g c told faithful guards =
    lasts_read _ _ _ _ _ c.args.self.now c.attach_anew.ensures.files c.commit.new.self.set told (c.commit.ensures.durable.lasts told faithful)

pub returns-in_err-put_ok-clause-lasts : goal.returns-in_err-put_ok-clause-lasts
returns-in_err-put_ok-clause-lasts g c told faithful guards =
    lasts_read _ _ _ _ _ c.args.self.now c.attach_anew.ensures.files c.commit.new.self.set told (c.commit.ensures.durable.lasts told faithful)

pub returns-in_err-commit-clause-lasts : goal.returns-in_err-commit-clause-lasts
returns-in_err-commit-clause-lasts g c told faithful guards = c.commit.ensures.durable.lasts told faithful

pub returns-clause-lasts : goal.returns-clause-lasts
returns-clause-lasts g c told faithful guards =
    let last = c.in_ok-commit.ensures.done.unchanged in
    let committed = g.F.Pages.files c.commit.new.folder in
    subst (λ (f : Files). Lasts g.row.D NoneGoes (g.F.Pages.files c.args.folder.now) f c.args.self.now.set c.renew.new.self)
    (sym (c.attach_anew.ensures.files told))
    (lasts_then g.row.D NoneGoes (g.F.Pages.files c.args.folder.now) committed c.args.self.now.set c.commit.new.self.set
    (c.commit.ensures.durable.lasts told faithful) NoneGoes NoneGoes committed c.renew.new.self (λ number gone. gone) (λ number gone. gone)
    (attached_last g.row.D committed c.commit.new.self.set c.in_ok-set.set c.renew.new.self last.commit (ap (λ (u : SetData). u.parts) (kept g c))
    (ap (λ (u : SetData). u.buffer) (kept g c)) last.same (c.in_ok-set.ensures.unchanged last.commit last.is).as_committed
    (c.commit.ensures.stays.faithful told faithful).heads (c.in_ok-set.ensures.faithful told).heads
    (c.in_ok-commit.ensures.done.lives told guards last.commit last.is) (c.in_ok-set.ensures.lives told last.commit last.is)))
