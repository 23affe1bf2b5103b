-- Nothing changed, or the commit was saved, written and swept up after.
use Rattle.std.proofs.Common.{◌≡◌, None, IsTrue, Err, Some, is_some, refl, sym, ap, subst, ◌∙◌, inl, inr}
use Rattle.std.proofs.lemmas.Bool.{both_ways}
use Rattle.std.proofs.lemmas.Result.{err_from_is_err_and}
use Rattle.page_cache.specs.declared.faults.PageFault.{PageFault}
use Rattle.stored_index.proofs.KeptFiles.{kept_itself, stored_still}
use Rattle.segment_set.specs.Sets.{IsSettled, SetData}
use Rattle.segment_set.specs.Seen.{Sees}
use Rattle.index_core.specs.Sessions.{Guards, IsCommitAnew, SessionData, Trusts}
use Rattle.index_core.specs.Light.{CommitsFewOfLevels}
use Rattle.index_core.specs.Steps.{SaysCommit}
use Rattle.index_core.specs.Closed.{IsTracked}
use Rattle.segment_set.specs.Kept.{Follows}
use Rattle.segment_set.proofs.Carried.{follows_none}
use Rattle.index_core.proofs.Brought.{commit_after, commit_swept, keeps_flight}
use Rattle.index_core.proofs.Owned.{own_flight, own_swept}
use Rattle.index_core.proofs.Closing.{tracked_commit}
use Rattle.index_core.proofs.Bringing.{brings_opened, brings_same, brings_still, brings_then, brings_two}
use Rattle.index_core.proofs.Guarding.{covered_opened, grows_alone, guards_after, kept_opened, set_alone}
use Rattle.index_core.proofs.Committing.{as_committed, commit_anew, keeps_any, keeps_fault, kept_on, on_ok_any, on_ok_none}
use Rattle.index_core.proofs.Committing.{says_still, stores_any, stores_fault}
use Rattle.segment_set.proofs.Sizes.{set_fits}
use Rattle.index_core.proofs.Sizes.{session_fits}
use Rattle.index_model.specs.State.{at_rest}
use Rattle.index_core.specs.Damages.{ShowsMerge}
use Rattle.index_core.proofs.Showing.{damage_to, merge_none, merge_to}
use Rattle.index_core.proofs.Answering.{no_cause}
use Rattle.index_core.proofs.FaultCauses.{fault_cause}
use Rattle.index_core.proofs.Lightly.{commits_few}
use Rattle.index_core.proofs.Tracing.{opened_shows, traced_written_by}
use Rattle.index_core.proofs.Undone.{few_listed, undone_flight, undone_kept, undone_written}
use Rattle.segment_set.specs.Faithful.{IsFaithful}
use Rattle.index_opening.proofs.Evident.{none_evident}
use Rattle.index_core.proofs.Arranging.{arranged_left, arranged_same, arranged_seen, arranged_swept, arranged_written}
use Rattle.index_core.proofs.Lasting.{loses_opened, saved_last, swept_last, written_last}
use Rattle.index_core.proofs.Renewed.{swept_lives}
use Rattle.index_core.proofs.Unchanged.{unchanged_committed, unchanged_durable}
use Rattle.index_core.proofs.Carrying.{carries_flown, carries_swept, carries_written, stays_itself}
use Rattle.index_core.proofs.session.Session.commit.Goals as goal
use Rattle.segment_set.proofs.Saving.{cause_after}

pub save-requires-after_bounds : goal.save-requires-after_bounds
save-requires-after_bounds g c κs = λ _. set_fits g.row.D c.self.invariant.few

pub write-requires : goal.write-requires
write-requires g c =
    (session_fits g.row.D c.self.invariant.few, (c.in_ok-commit.ensures.saves.commit, (c.in_ok-commit.ensures.saves.saved, c.in_ok-commit.ensures.emptied)))

pub sweep-requires : goal.sweep-requires
sweep-requires g c = (session_fits g.row.D c.self.invariant.few, (ap is_some c.in_ok-write.ensures.written.0, c.in_ok-write.ensures.written.1))

-- nothing was changed
pub returns-then-not-is_changed : goal.returns-then-not-is_changed
returns-then-not-is_changed g c =
    let unchanged = c.is_changed.ensures.unchanged.0 c.if-not-is_changed.true in
    record {
      seen = λ told i seen. seen;
      stays = stays_itself _ _ _ _;
      durable = unchanged_durable _ _ _ _ tt unchanged (c.is_changed.ensures.sound c.if-not-is_changed.true);
      flight = λ told guards. inl (kept_itself _);
      done = unchanged_committed _ _ _ _ unchanged (c.is_changed.ensures.sound c.if-not-is_changed.true);
      idle = λ same. (refl, refl, refl, refl);
      rested = λ settled. refl;
      canon = λ told. brings_same _ _ _ _ _ refl refl;
      follows = follows_none _ _;
      arranged = arranged_same _ _ _ _ _ refl;
      faults = record { cause = no_cause _ tt; whole = λ told i seen. tt; evident = tt };
      damage = merge_none _ _ _ _ _ _ tt;
    }

-- the set could not be saved
pub returns-in_err-commit : goal.returns-in_err-commit
returns-in_err-commit g c =
    let p = err_from_is_err_and c.from_residual.result c.from_residual.ensures.1 in
    let error = p.1 ∙ ap (λ (e : PageFault). Err e) p.2 in
    let old = g.F.Pages.files c.args.folder.now in
    let saved = g.F.Pages.files c.save.new.folder in
    let damaged = c.in_err-commit.ensures.damaged in
    let inside : SessionData = record { set = c.self.inside.set; commit = c.self.inside.commit; refused = c.self.inside.refused } in
    let kept = kept_opened g.row.D (IsTrue g.F.Pages.told) old saved _ _ _ c.self.view_is c.save.ensures.rewrites.kept in
    record {
      seen = λ told i seen. c.save.ensures.seen told i (subst (λ (u : SessionData). Sees g.row.D old u.set i) (sym c.self.view_is) seen);
      stays = record {
        guards = λ told guards. guards_after _ _ _ _ _ _ told refl refl c.save.ensures.rewrites.kept c.save.ensures.rewrites.follows
            (grows_alone _ _ c.save.ensures.stays) (subst (Guards g.row.D old) (sym c.self.view_is) guards);
        faithful = λ told faithful.
            c.save.ensures.rewrites.faithful told (subst (λ (u : SessionData). IsFaithful g.row.D old u.set) (sym c.self.view_is) faithful);
        traced = λ told trusts.
            traced_written_by _ _ _ _ c.args.self.now _ c.save.new.self c.self.view_is told c.save.ensures.rewrites c.save.ensures.stays
            c.is_changed.ensures.well trusts;
        carries = λ told. carries_written _ _ _ _ c.args.self.now _ c.save.new.self c.self.view_is told c.save.ensures.rewrites.kept
            c.save.ensures.rewrites.follows (c.save.ensures.rewrites.canon told) c.is_changed.ensures.well c.save.ensures.stays.snapshots;
      };
      durable = record {
        kept = λ told guards. keeps_fault old saved (record inside { set = c.save.new.self }) _ _ error (inl (kept told guards));
        stored = λ told i seen guards. stores_fault old saved i c.save.new.self _ _ error (inl (kept told guards));
        undone = λ told guards. undone_kept old saved _ _ error (kept told guards);
        own = λ told guards. inl (kept told guards);
        lasting = λ told trusts. inl (kept told trusts.guards);
        lasts = saved_last _ _ _ _ _ _ _ c.self.view_is c.is_changed.ensures.well c.save.ensures.rewrites;
      };
      flight = λ told guards. inl (kept told guards);
      done = on_ok_none _ _ _ p.1;
      idle = λ unchanged. absurd (both_ways c.is_changed.result (c.is_changed.ensures.unchanged.1 unchanged) c.if-not-is_changed.false);
      rested = λ settled. c.save.ensures.rested (subst (λ (u : SessionData). IsSettled u.set) (sym c.self.view_is) settled);
      canon = λ told. brings_opened _ _ _ _ _ _ c.save.new.self c.self.view_is told c.save.ensures.rewrites.kept c.save.ensures.rewrites.follows
          (c.save.ensures.rewrites.canon told);
      follows = subst (λ (u : SessionData). Follows u.set.names u.set.parts c.save.new.self.parts) c.self.view_is c.save.ensures.rewrites.follows;
      arranged = arranged_seen _ _ _ _ _ _ c.self.view_is (arranged_left _ _ _ _ _ c.in_err-commit.ensures.left);
      faults = record {
        cause = fault_cause _ _ c.in_err-commit.field-0.0 _ error c.in_err-commit.ensures.cause;
        whole = λ told i seen.
            rw (p.1, p.2) (c.in_err-commit.ensures.damaged.whole told i (subst (λ (u : SessionData). Sees g.row.D old u.set i) (sym c.self.view_is) seen));
        evident = damage_to _ _ c.in_err-commit.field-0.0 error (opened_shows {X = Unit {0}} _ _ _ _ _ inside _ (Err c.in_err-commit.field-0.0)
            c.self.view_is c.save.ensures.rewrites.kept c.is_changed.ensures.well.named c.in_err-commit.ensures.damaged.evident);
      };
      damage = subst (λ (u : SessionData). ShowsMerge g.row.D (IsTrue g.F.Pages.told) old saved u.set c.save.new.self c.from_residual.result) c.self.view_is
          (merge_to {T = Unit {0}} _ _ _ _ _ _ c.in_err-commit.field-0.0 error
          (record { shown = damaged.shown; damage = damaged.damage; doubled = damaged.doubled }));
    }

-- the commit could not be written
pub returns-in_err-write : goal.returns-in_err-write
returns-in_err-write g c =
    let p = err_from_is_err_and c.from_residual-in_err-write.result c.from_residual-in_err-write.ensures.1 in
    let error = p.1 ∙ ap (λ (e : PageFault). Err e) p.2 in
    let fault = c.in_err-write.field-0.0 in
    let old = g.F.Pages.files c.args.folder.now in
    let saved = g.F.Pages.files c.save.new.folder in
    let written = g.F.Pages.files c.write.new.folder in
    let covers = covered_opened g.row.D old _ _ c.last_lines-last.result.now c.self.view_is c.last_lines-last.ensures in
    let kept = kept_opened g.row.D (IsTrue g.F.Pages.told) old saved _ _ _ c.self.view_is c.save.ensures.rewrites.kept in
    record {
      seen = λ told i seen.
          c.write.ensures.seen told i (c.save.ensures.seen told i (subst (λ (u : SessionData). Sees g.row.D old u.set i) (sym c.self.view_is) seen));
      stays = record {
        guards = λ told guards. c.write.ensures.guards told
            (set_alone _ _ _ _ _ _ told c.save.ensures.rewrites.kept c.save.ensures.stays (subst (Guards g.row.D old) (sym c.self.view_is) guards).set)
            (c.in_ok-commit.ensures.saves.live told (covers guards));
        faithful = λ told faithful. c.write.ensures.faithful told
            (c.save.ensures.rewrites.faithful told (subst (λ (u : SessionData). IsFaithful g.row.D old u.set) (sym c.self.view_is) faithful));
        traced = λ told trusts. c.write.ensures.traced told (c.in_ok-commit.ensures.saves.live told (covers trusts.guards))
            (traced_written_by _ _ _ _ c.args.self.now _ c.save.new.self c.self.view_is told c.save.ensures.rewrites c.save.ensures.stays
            c.is_changed.ensures.well trusts);
        carries = λ told. carries_flown _ saved _ c.args.self.now.set c.save.new.self _
            (carries_written _ _ _ _ c.args.self.now _ c.save.new.self c.self.view_is told c.save.ensures.rewrites.kept
            c.save.ensures.rewrites.follows (c.save.ensures.rewrites.canon told) c.is_changed.ensures.well c.save.ensures.stays.snapshots)
            (c.write.ensures.others told) c.write.ensures.set;
      };
      durable = record {
        kept = λ told guards.
            keeps_fault old written c.write.new.self _ _ error (kept_on old saved written (kept told guards) (c.in_err-write.ensures.kept told));
        stored = λ told i seen guards. stores_fault old written i c.write.new.self.set _ _ error
            (kept_on old saved written (kept told guards) (c.in_err-write.ensures.stored told i
            (c.in_ok-commit.ensures.saves.stored told (covers guards) i (subst (λ (u : SessionData). Sees g.row.D old u.set i) (sym c.self.view_is) seen))));
        undone = λ told guards. undone_flight (Unit {0}) old written c.write.new.self.set.saved fault _ error c.in_err-write.ensures.faults.whole
            (kept_on old saved written (kept told guards) (c.in_err-write.ensures.kept told));
        own = λ told guards. own_flight _ _ _ saved _ c.last_lines-last.result.now _ _ c.save.new.self _ _ c.self.view_is
            (ap (λ (u : SetData). u.saved) c.write.ensures.set ∙ c.in_ok-commit.ensures.saves.saved) c.in_ok-commit.ensures.saves.commit
            c.in_ok-commit.ensures.emptied c.in_ok-commit.ensures.flushed (c.in_ok-commit.ensures.saves.live told (covers guards))
            (loses_opened _ _ _ _ _ _ _ c.self.view_is c.is_changed.ensures.well c.save.ensures.rewrites told) (c.write.ensures.others told)
            (kept told guards) (c.in_err-write.ensures.kept told);
        lasting = λ told trusts.
            let before = subst (Trusts g.row.D old) (sym c.self.view_is) trusts in
            commit_after old saved written (kept told trusts.guards) (keeps_flight g.row.D saved written c.save.new.self _ _
            (ap (λ (u : SetData). u.saved) c.write.ensures.set ∙ c.in_ok-commit.ensures.saves.saved) c.in_ok-commit.ensures.saves.commit
            (c.in_ok-commit.ensures.saves.live told (covers trusts.guards)) (c.write.ensures.others told)
            (set_alone _ _ _ _ _ _ told c.save.ensures.rewrites.kept c.save.ensures.stays before.guards.set)
            (traced_written_by _ _ _ _ c.args.self.now _ c.save.new.self c.self.view_is told c.save.ensures.rewrites c.save.ensures.stays
            c.is_changed.ensures.well trusts).parts
            (c.in_err-write.ensures.kept told));
        lasts = written_last _ _ _ saved _ _ _ _ _ c.self.view_is c.is_changed.ensures.well c.save.ensures.rewrites c.write.ensures.set c.write.ensures.others;
      };
      flight = λ told guards. kept_on old saved written (kept told guards) (c.in_err-write.ensures.kept told);
      done = on_ok_none _ _ _ p.1;
      idle = λ unchanged. absurd (both_ways c.is_changed.result (c.is_changed.ensures.unchanged.1 unchanged) c.if-not-is_changed.false);
      rested = λ settled. c.write.ensures.unread ∙ c.save.ensures.rested (subst (λ (u : SessionData). IsSettled u.set) (sym c.self.view_is) settled);
      canon = λ told. brings_then _ _ _ _ _ c.save.new.self.parts _ (brings_opened _ _ _ _ _ _ c.save.new.self c.self.view_is told
          c.save.ensures.rewrites.kept c.save.ensures.rewrites.follows (c.save.ensures.rewrites.canon told))
          (brings_two _ _ _ _ _ (c.write.ensures.others told) (ap (λ (u : SetData). u.parts) c.write.ensures.set));
      follows = subst (λ (u : SessionData). Follows u.set.names u.set.parts c.write.new.self.set.parts) c.self.view_is
          (subst (λ (u : SetData). Follows c.self.inside.set.names c.self.inside.set.parts u.parts) (sym c.write.ensures.set) c.save.ensures.rewrites.follows);
      arranged = arranged_written _ _ _ _ _ _ _ _ c.self.view_is c.write.ensures.set c.in_ok-commit.ensures.flushed;
      faults = record {
        cause =
            fault_cause _ _ fault _ error (cause_after {T = Unit {0}} _ _ _ (Err fault) c.in_ok-commit.ensures.cause.on_ok c.in_err-write.ensures.faults.cause);
        whole = λ told i seen. damage_to _ _ fault error c.in_err-write.ensures.faults.whole;
        evident = none_evident _ _ _ (damage_to _ _ fault error c.in_err-write.ensures.faults.whole);
      };
      damage = merge_none _ _ _ _ _ _ (damage_to _ _ fault error c.in_err-write.ensures.faults.whole);
    }

-- the commit is written, and what it doesn't need was swept away as far as the folder let
pub returns : goal.returns
returns g c =
    let old = g.F.Pages.files c.args.folder.now in let saved = g.F.Pages.files c.save.new.folder in
    let written = g.F.Pages.files c.write.new.folder in
    let swept = g.F.Pages.files c.sweep.new.folder in
    let kept = kept_opened g.row.D (IsTrue g.F.Pages.told) old saved _ _ _ c.self.view_is c.save.ensures.rewrites.kept in
    let same = c.sweep.ensures.written.0 ∙ c.in_ok-write.ensures.written.0 in
    let committed = as_committed _ _ _ _ _ c.in_ok-commit.ensures.saves.commit c.in_ok-commit.ensures.emptied c.write.ensures.set c.sweep.ensures.rest in
    let flown = ap (λ (u : SetData). u.saved) c.sweep.ensures.rest.is
    ∙ (ap (λ (u : SetData). u.saved) c.write.ensures.set ∙ c.in_ok-commit.ensures.saves.saved ∙ sym c.in_ok-write.ensures.written.0)
    ∙ sym c.sweep.ensures.written.0 in
    let empty = ap (λ (u : SetData). u.buffer) c.sweep.ensures.rest.is ∙ ap (λ (u : SetData). u.buffer) c.write.ensures.set ∙ c.in_ok-commit.ensures.emptied in
    let covers = covered_opened g.row.D old _ _ c.last_lines-last.result.now c.self.view_is c.last_lines-last.ensures in
    let guarded : IsTrue g.F.Pages.told → Guards g.row.D old c.args.self.now → Guards g.row.D written c.write.new.self =
    λ told guards. c.write.ensures.guards told
    (set_alone _ _ _ _ _ _ told c.save.ensures.rewrites.kept c.save.ensures.stays (subst (Guards g.row.D old) (sym c.self.view_is) guards).set)
    (c.in_ok-commit.ensures.saves.live told (covers guards)) in
    let says : IsTrue g.F.Pages.told → Guards g.row.D old c.args.self.now → SaysCommit swept c.sweep.new.self.commit =
    λ told guards. says_still written swept c.write.new.self.commit c.sweep.new.self.commit (c.sweep.ensures.kept told (guarded told guards))
    c.sweep.ensures.written.0 (c.in_ok-write.ensures.kept told) in
    let few : c.args.self.now.set.begun ≡ None → CommitsFewOfLevels c.sweep.new.self.commit =
    λ none. commits_few _ c.save.new.self c.in_ok-commit.commit _ same
    (c.save.ensures.begun ∙ ap (λ (u : SessionData). u.set.begun) c.self.view_is ∙ none) c.in_ok-commit.ensures.saves.commit c.in_ok-commit.ensures.levels in
    record {
      seen = λ told i seen. c.sweep.ensures.seen told i (c.write.ensures.seen told i
          (c.save.ensures.seen told i (subst (λ (u : SessionData). Sees g.row.D old u.set i) (sym c.self.view_is) seen)));
      stays = record {
        guards = λ told guards. c.sweep.ensures.guards told (guarded told guards);
        faithful = λ told faithful. c.sweep.ensures.faithful told (c.write.ensures.faithful told
            (c.save.ensures.rewrites.faithful told (subst (λ (u : SessionData). IsFaithful g.row.D old u.set) (sym c.self.view_is) faithful)));
        traced = λ told trusts. c.sweep.ensures.traced told (guarded told trusts.guards)
            (c.write.ensures.traced told (c.in_ok-commit.ensures.saves.live told (covers trusts.guards))
            (traced_written_by _ _ _ _ c.args.self.now _ c.save.new.self c.self.view_is told c.save.ensures.rewrites c.save.ensures.stays
            c.is_changed.ensures.well trusts));
        carries = λ told. carries_swept _ written _ c.args.self.now.set c.write.new.self.set c.sweep.new.self.set
            (carries_flown _ saved _ c.args.self.now.set c.save.new.self _
            (carries_written _ _ _ _ c.args.self.now _ c.save.new.self c.self.view_is told c.save.ensures.rewrites.kept
            c.save.ensures.rewrites.follows (c.save.ensures.rewrites.canon told) c.is_changed.ensures.well c.save.ensures.stays.snapshots)
            (c.write.ensures.others told) c.write.ensures.set) c.sweep.ensures.rest (c.sweep.ensures.removes.segments told);
      };
      durable = record {
        kept = λ told guards. keeps_any old swept c.sweep.new.self c.sweep.result flown (says told guards);
        stored = λ told i seen guards. stores_any old swept i c.sweep.new.self.set c.sweep.result
            (stored_still written swept (Some (at_rest i)) (c.sweep.ensures.kept told (guarded told guards)) (c.in_ok-write.ensures.stored told i
            (c.in_ok-commit.ensures.saves.stored told (covers guards) i (subst (λ (u : SessionData). Sees g.row.D old u.set i) (sym c.self.view_is) seen))).0)
            empty;
        undone = λ told guards. undone_written old swept c.sweep.new.self.commit c.sweep.result c.sweep.ensures.faults.whole (says told guards);
        own = λ told guards. own_swept g.row.D (IsTrue g.F.Pages.told) old written swept _
            (own_flight g.row.D (IsTrue g.F.Pages.told) old saved written c.last_lines-last.result.now _ _ c.save.new.self c.in_ok-commit.commit
            c.write.new.self.commit c.self.view_is c.in_ok-write.ensures.written.0 c.in_ok-commit.ensures.saves.commit c.in_ok-commit.ensures.emptied
            c.in_ok-commit.ensures.flushed (c.in_ok-commit.ensures.saves.live told (covers guards))
            (loses_opened _ _ _ _ _ _ _ c.self.view_is c.is_changed.ensures.well c.save.ensures.rewrites told) (c.write.ensures.others told)
            (kept told guards) (inr (c.in_ok-write.ensures.kept told))) (c.sweep.ensures.kept told (guarded told guards));
        lasting = λ told trusts.
            let before = subst (Trusts g.row.D old) (sym c.self.view_is) trusts in
            commit_swept old written swept (commit_after old saved written (kept told trusts.guards)
            (keeps_flight g.row.D saved written c.save.new.self c.in_ok-commit.commit c.write.new.self.commit c.in_ok-write.ensures.written.0
            c.in_ok-commit.ensures.saves.commit (c.in_ok-commit.ensures.saves.live told (covers trusts.guards)) (c.write.ensures.others told)
            (set_alone _ _ _ _ _ _ told c.save.ensures.rewrites.kept c.save.ensures.stays before.guards.set)
            (traced_written_by _ _ _ _ c.args.self.now _ c.save.new.self c.self.view_is told c.save.ensures.rewrites c.save.ensures.stays
            c.is_changed.ensures.well trusts).parts
            (inr (c.in_ok-write.ensures.kept told)))) (c.sweep.ensures.kept told (guarded told trusts.guards));
        lasts = swept_last _ _ _ written _ _ _ _ _ c.sweep.ensures.rest (λ told p there. c.sweep.ensures.removes.segments told p (inl there))
            (written_last _ _ _ saved _ _ _ _ _ c.self.view_is c.is_changed.ensures.well c.save.ensures.rewrites c.write.ensures.set c.write.ensures.others);
      };
      flight = λ told guards. inr (says_still written swept _ _ (c.sweep.ensures.kept told (guarded told guards)) (flown ∙ c.sweep.ensures.written.0)
          (c.in_ok-write.ensures.kept told));
      done = on_ok_any c.sweep.result (record {
        unchanged = record { commit = c.in_ok-commit.commit; is = same; done = c.sweep.ensures.written.1; same = committed };
        lives = λ told guards last is. swept_lives saved written swept _ _ _ _ last _ _ (c.in_ok-commit.ensures.saves.live told (covers guards))
            (c.write.ensures.others told) (c.in_ok-write.ensures.kept told) c.in_ok-write.ensures.written.0 (c.sweep.ensures.kept told (guarded told guards))
            c.write.ensures.set c.sweep.ensures.rest same is;
        anew = λ changed. subst (λ (u : SessionData). IsCommitAnew u c.sweep.new.self) c.self.view_is
            (commit_anew _ _ c.in_ok-commit.commit _ c.last_lines-last.ensures same c.in_ok-commit.ensures.saves.fresh c.in_ok-commit.ensures.saves.kept);
        levels = λ changed none. few none;
        few = λ told guards none. few_listed old swept c.sweep.new.self.commit (says told guards) (few none);
        tracked = λ told m. subst (λ (u : SessionData). IsTracked old swept u.set.names c.sweep.new.self.set.names m) c.self.view_is
            (tracked_commit _ old saved written swept c.self.inside.set.names c.save.new.self.names c.write.new.self.set.names
            c.sweep.new.self.set.names m told c.save.ensures.rewrites.kept (ap (λ (u : SetData). u.names) c.write.ensures.set)
            (c.write.ensures.others told) (c.in_ok-write.ensures.gone told) (c.sweep.ensures.removes.tracked told m));
      });
      idle = λ unchanged. absurd (both_ways c.is_changed.result (c.is_changed.ensures.unchanged.1 unchanged) c.if-not-is_changed.false);
      rested = λ settled. c.sweep.ensures.unread ∙ c.write.ensures.unread
          ∙ c.save.ensures.rested (subst (λ (u : SessionData). IsSettled u.set) (sym c.self.view_is) settled);
      canon = λ told. brings_then _ _ _ _ _ c.write.new.self.set.parts _ (brings_then _ _ _ _ _ c.save.new.self.parts _
          (brings_opened _ _ _ _ _ _ c.save.new.self c.self.view_is told c.save.ensures.rewrites.kept c.save.ensures.rewrites.follows
          (c.save.ensures.rewrites.canon told))
          (brings_two _ _ _ _ _ (c.write.ensures.others told) (ap (λ (u : SetData). u.parts) c.write.ensures.set)))
          (brings_still _ _ _ _ _ (λ p there. c.sweep.ensures.removes.segments told p (inl there))
          (ap (λ (u : SetData). u.parts) c.sweep.ensures.rest.is));
      follows = subst (λ (u : SessionData). Follows u.set.names u.set.parts c.sweep.new.self.set.parts) c.self.view_is
          (subst (Follows c.self.inside.set.names c.self.inside.set.parts)
          (sym (ap (λ (u : SetData). u.parts) c.sweep.ensures.rest.is ∙ ap (λ (u : SetData). u.parts) c.write.ensures.set)) c.save.ensures.rewrites.follows);
      arranged = arranged_swept _ _ _ _ _ _ _ _ _ c.self.view_is c.write.ensures.set c.sweep.ensures.rest c.in_ok-commit.ensures.flushed;
      faults = record {
        cause = cause_after _ _ _ c.sweep.result (c.in_ok-write.ensures.faults.cause.on_ok ∙ c.in_ok-commit.ensures.cause.on_ok) c.sweep.ensures.faults.cause;
        whole = λ told i seen. c.sweep.ensures.faults.whole;
        evident = none_evident _ _ _ c.sweep.ensures.faults.whole;
      };
      damage = merge_none _ _ _ _ _ _ c.sweep.ensures.faults.whole;
    }
