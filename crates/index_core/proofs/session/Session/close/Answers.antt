-- All is committed, and what the session held is swept away.
use Rattle.std.proofs.Common.{◌≡◌, IsTrue, List, Err, Some, is_some, sym, ap, subst, ◌∙◌, ⊎_elim, inl}
use Rattle.std.proofs.lemmas.Result.{err_from_is_err_and, on_ok_weaker}
use Rattle.std.specs.List.{Contains}
use Rattle.page_cache.specs.declared.faults.PageFault.{PageFault}
use Rattle.stored_index.specs.Kept.{SameKept}
use Rattle.stored_index.proofs.KeptFiles.{stored_still}
use Rattle.index_model.specs.State.{at_rest}
use Rattle.segment_view.specs.LiveSegments.{LiveSegment}
use Rattle.segment_set.specs.Sets.{SetData}
use Rattle.segment_set.specs.Seen.{Sees}
use Rattle.index_opening.proofs.Evident.{none_evident}
use Rattle.segment_set.proofs.Sizes.{set_fits}
use Rattle.index_core.specs.Closed.{IsTracked, NamesOnlyListed}
use Rattle.index_core.specs.Sessions.{Guards, SessionData}
use Rattle.index_core.specs.Steps.{SaysCommit}
use Rattle.index_core.proofs.FaultCauses.{fault_cause}
use Rattle.index_core.proofs.Bringing.{brings_still, brings_then}
use Rattle.index_core.proofs.Brought.{commit_swept}
use Rattle.index_core.proofs.Owned.{own_swept}
use Rattle.index_core.proofs.Closing.{flight_then, guards_eased, keeps_either, levels_then}
use Rattle.index_core.proofs.Closing.{names_eased, only_listed, tracked_then, unchanged_closed}
use Rattle.index_core.proofs.Committing.{keeps_fault, on_ok_any, on_ok_none, says_still, stores_any, stores_fault}
use Rattle.index_core.proofs.Sizes.{session_fits}
use Rattle.index_core.proofs.Undone.{undone_written}
use Rattle.index_core.proofs.session.Session.close.Given as given
use Rattle.index_core.proofs.Lasting.{lasts_then_like}
use Rattle.index_core.proofs.session.Session.close.Goals as goal
use Rattle.segment_set.proofs.Snapped.{set_rested}
use Rattle.segment_set.proofs.Saving.{cause_after}

-- the set after its snapshots and its begun merge went
eased : (g : given.Over) (c : goal.After-sweep g) → c.rest.new.self ≡ set_rested c.commit.new.self.set
eased g c = c.rest.ensures.kept ∙ ap (λ (u : SessionData). set_rested u.set) c.self.view_is

-- the session after its snapshots are let go
abbrev held : (g : given.Over) (c : goal.After-sweep g) → SessionData
held g c = record { set = c.rest.new.self; commit = c.self.inside.commit; refused = c.self.inside.refused }

guarded : (g : given.Over) (c : goal.After-sweep g) → IsTrue g.F.Pages.told → Guards g.row.D (g.F.Pages.files c.args.folder.now) c.args.self.now
    → Guards g.row.D (g.F.Pages.files c.commit.new.folder) (held g c)
guarded g c told guards = subst (λ (u : SessionData). Guards g.row.D (g.F.Pages.files c.commit.new.folder) (record u { set = c.rest.new.self }))
    (sym c.self.view_is)
    (guards_eased _ _ _ c.commit.new.self c.rest.new.self told (eased g c) (c.commit.ensures.stays.guards told guards))

-- what the folder keeps is the same after the sweep
kept : (g : given.Over) (c : goal.After-sweep g) → IsTrue g.F.Pages.told → Guards g.row.D (g.F.Pages.files c.args.folder.now) c.args.self.now
    → SameKept (g.F.Pages.files c.commit.new.folder) (g.F.Pages.files c.sweep.new.folder)
kept g c told guards = c.sweep.ensures.kept told (guarded g c told guards)

commit_same : (g : given.Over) (c : goal.After-sweep g) → c.sweep.new.self.commit ≡ c.commit.new.self.commit
commit_same g c = c.sweep.ensures.written.0 ∙ ap (λ (u : SessionData). u.commit) c.self.view_is

says : (g : given.Over) (c : goal.After-sweep g) → IsTrue g.F.Pages.told → Guards g.row.D (g.F.Pages.files c.args.folder.now) c.args.self.now
    → SaysCommit (g.F.Pages.files c.sweep.new.folder) c.sweep.new.self.commit
says g c told guards = says_still _ _ c.commit.new.self.commit _ (kept g c told guards) (commit_same g c) (c.in_ok-commit.ensures.durable.kept told guards)

pub rest-requires : goal.rest-requires
rest-requires g c = set_fits g.row.D c.self.invariant.few

pub sweep-requires : goal.sweep-requires
sweep-requires g c = (
  session_fits g.row.D c.self.invariant.few,
  (
    ap (λ (u : SessionData). is_some u.commit) c.self.view_is ∙ ap is_some c.in_ok-commit.ensures.done.unchanged.is,
    ap (λ (u : SessionData). u.refused) c.self.view_is
        ∙ c.in_ok-commit.ensures.done.unchanged.done,
  ),
)

pub returns-clause-closed : goal.returns-clause-closed
returns-clause-closed g c = on_ok_weaker c.sweep.result (λ needed. record {
  seen = λ told i seen. c.sweep.ensures.seen told (at_rest i)
      (c.rest.ensures.seen _ i (subst (λ (u : SessionData). Sees g.row.D (g.F.Pages.files c.commit.new.folder) u.set i) (sym c.self.view_is)
      (c.commit.ensures.seen told i seen)));
  guards = λ told guards. c.sweep.ensures.guards told (guarded g c told guards);
  says = says g c;
  unchanged = unchanged_closed c.commit.new.self c.rest.new.self c.sweep.new.self (eased g c) c.sweep.ensures.rest (commit_same g c)
      c.in_ok-commit.ensures.done.unchanged c.sweep.ensures.written.1;
  listed =
      only_listed c.commit.new.self c.rest.new.self c.sweep.new.self (eased g c) c.sweep.ensures.rest (commit_same g c) c.in_ok-commit.ensures.done.unchanged
      (λ m there. let (d, is, need) = needed m there in (d, ap (λ (u : SessionData). u.commit) (sym c.self.view_is) ∙ is, need));
  tracked = λ told m.
      let f = g.F.Pages.files c.args.folder.now in
      let done = g.F.Pages.files c.commit.new.folder in
      let swept = g.F.Pages.files c.sweep.new.folder in
      let names = c.sweep.new.self.set.names in
      tracked_then f done swept c.args.self.now.set.names c.commit.new.self.set.names names m (c.in_ok-commit.ensures.done.tracked told m)
      (subst (λ (u : SetData). IsTracked done swept u.names names m) (eased g c) (c.sweep.ensures.removes.tracked told m));
}) c.sweep.ensures.removes.needed

pub returns-clause-durable : goal.returns-clause-durable
returns-clause-durable g c = record {
  kept = λ told guards.
      keeps_either (g.F.Pages.files c.args.folder.now) (g.F.Pages.files c.sweep.new.folder) c.sweep.new.self c.sweep.result
      (says g c told guards)
      (flight_then _ (g.F.Pages.files c.commit.new.folder) _ c.commit.new.self.set.saved _
      (ap (λ (u : SetData). u.saved) c.sweep.ensures.rest.is ∙ ap (λ (u : SetData). u.saved) (eased g c))
      (kept g c told guards) (c.commit.ensures.flight told guards));
  stored = λ told i seen guards.
      stores_any (g.F.Pages.files c.args.folder.now) (g.F.Pages.files c.sweep.new.folder) i c.sweep.new.self.set
      c.sweep.result
      (stored_still (g.F.Pages.files c.commit.new.folder) (g.F.Pages.files c.sweep.new.folder) (Some (at_rest i)) (kept g c told guards)
      (c.in_ok-commit.ensures.durable.stored told i seen guards).0)
      (ap (λ (u : SetData). u.buffer) c.sweep.ensures.rest.is ∙ ap (λ (u : SetData). u.buffer) (eased g c)
      ∙ (c.in_ok-commit.ensures.durable.stored told i seen guards).1);
  undone = λ told guards.
      undone_written _ (g.F.Pages.files c.sweep.new.folder) c.sweep.new.self.commit c.sweep.result c.sweep.ensures.faults.whole
      (says g c told guards);
  own = λ told guards.
      own_swept g.row.D (IsTrue g.F.Pages.told) (g.F.Pages.files c.args.folder.now) (g.F.Pages.files c.commit.new.folder)
      (g.F.Pages.files c.sweep.new.folder) c.args.self.now.set (c.commit.ensures.durable.own told guards) (kept g c told guards);
  lasting = λ told trusts.
      commit_swept (g.F.Pages.files c.args.folder.now) (g.F.Pages.files c.commit.new.folder)
      (g.F.Pages.files c.sweep.new.folder) (c.commit.ensures.durable.lasting told trusts) (kept g c told trusts.guards);
  lasts = λ told faithful.
      let parts = ap (λ (u : SetData). u.parts) (eased g c) in
      lasts_then_like _ _ _ (g.F.Pages.files c.commit.new.folder) _ _ c.commit.new.self.set _
      (ap (λ (u : SetData). u.parts) c.sweep.ensures.rest.is ∙ parts)
      (ap (λ (u : SetData). u.buffer) c.sweep.ensures.rest.is ∙ ap (λ (u : SetData). u.buffer) (eased g c))
      (λ p there. c.sweep.ensures.removes.segments told p (inl (subst (λ (ps : List LiveSegment). Contains ps p) (sym parts) there)))
      (c.commit.ensures.durable.lasts told faithful);
}

pub returns-clause-idle : goal.returns-clause-idle
returns-clause-idle g c told idle =
    let still = c.commit.ensures.idle idle.unchanged in
    c.sweep.ensures.removes.idle told (subst (λ (u : SessionData). NamesOnlyListed (record u { set = c.rest.new.self })) (sym c.self.view_is)
    (names_eased c.commit.new.self c.rest.new.self (eased g c) (subst NamesOnlyListed (sym still.1) idle.listed))) ∙ still.2

pub returns-clause-reads : goal.returns-clause-reads
returns-clause-reads g c which = c.sweep.ensures.unread ∙ ⊎_elim (λ u. (c.commit.ensures.idle u).3) c.commit.ensures.rested which

pub returns-clause-few : goal.returns-clause-few
returns-clause-few g c told guards none = on_ok_any c.sweep.result
    (levels_then (g.F.Pages.files c.args.folder.now) (g.F.Pages.files c.commit.new.folder) (g.F.Pages.files c.sweep.new.folder)
    (kept g c told guards) (c.in_ok-commit.ensures.done.few told guards none))

pub returns-clause-canon : goal.returns-clause-canon
returns-clause-canon g c told =
    let parts = ap (λ (u : SetData). u.parts) (eased g c) in
    brings_then _ _ (g.F.Pages.files c.commit.new.folder) _ _ c.commit.new.self.set.parts _ (c.commit.ensures.canon told)
    (brings_still _ _ _ c.commit.new.self.set.parts
    _ (λ p there. c.sweep.ensures.removes.segments told p (inl (subst (λ (ps : List LiveSegment). Contains ps p) (sym parts) there)))
    (ap (λ (u : SetData). u.parts) c.sweep.ensures.rest.is ∙ parts))

pub returns-clause-faults : goal.returns-clause-faults
returns-clause-faults g c = record {
  cause = cause_after _ _ _ c.sweep.result c.in_ok-commit.ensures.faults.cause.on_ok c.sweep.ensures.faults.cause;
  whole = λ told i seen. c.sweep.ensures.faults.whole;
  evident = none_evident _ _ _ c.sweep.ensures.faults.whole;
}

-- ---- the commit failed

pub returns-in_err-commit-clause-closed : goal.returns-in_err-commit-clause-closed
returns-in_err-commit-clause-closed g c = on_ok_none _ _ _ (err_from_is_err_and c.from_residual.result c.from_residual.ensures.1).1

pub returns-in_err-commit-clause-few : goal.returns-in_err-commit-clause-few
returns-in_err-commit-clause-few g c told guards none = on_ok_none _ _ _ (err_from_is_err_and c.from_residual.result c.from_residual.ensures.1).1

pub returns-in_err-commit-clause-durable : goal.returns-in_err-commit-clause-durable
returns-in_err-commit-clause-durable g c =
    let p = err_from_is_err_and c.from_residual.result c.from_residual.ensures.1 in
    record {
      kept = λ told guards.
          keeps_fault (g.F.Pages.files c.args.folder.now) (g.F.Pages.files c.commit.new.folder) c.commit.new.self
          c.from_residual.result _ (p.1 ∙ ap (λ (e : PageFault). Err e) p.2)
          (c.in_err-commit.ensures.durable.kept told guards);
      stored = λ told i seen guards.
          stores_fault (g.F.Pages.files c.args.folder.now) (g.F.Pages.files c.commit.new.folder) i c.commit.new.self.set
          c.from_residual.result _ (p.1 ∙ ap (λ (e : PageFault). Err e) p.2)
          (c.in_err-commit.ensures.durable.stored told i seen guards);
      undone = λ told guards. rw (p.1, p.2) (c.in_err-commit.ensures.durable.undone told guards);
      own = λ told guards. c.commit.ensures.durable.own told guards;
      lasting = λ told trusts. c.commit.ensures.durable.lasting told trusts;
      lasts = λ told faithful. c.commit.ensures.durable.lasts told faithful;
    }

pub returns-in_err-commit-clause-idle : goal.returns-in_err-commit-clause-idle
returns-in_err-commit-clause-idle g c told idle = (c.commit.ensures.idle idle.unchanged).2

pub returns-in_err-commit-clause-reads : goal.returns-in_err-commit-clause-reads
returns-in_err-commit-clause-reads g c which = ⊎_elim (λ u. (c.commit.ensures.idle u).3) c.commit.ensures.rested which

pub returns-in_err-commit-clause-faults : goal.returns-in_err-commit-clause-faults
returns-in_err-commit-clause-faults g c =
    let p = err_from_is_err_and c.from_residual.result c.from_residual.ensures.1 in
    record {
      cause = fault_cause _ _ c.in_err-commit.field-0.0 _ (p.1 ∙ ap (λ (e : PageFault). Err e) p.2) c.in_err-commit.ensures.faults.cause;
      whole = λ told i seen. rw (p.1, p.2) (c.in_err-commit.ensures.faults.whole told i seen);
      evident = rw (p.1, p.2) c.in_err-commit.ensures.faults.evident;
    }
