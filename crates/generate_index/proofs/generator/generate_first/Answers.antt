-- A session is created and filled, and what it makes is said and committed.
use Rattle.std.proofs.Common.{◌≡◌, Bool, Err, IsTrue, None, false, inl, refl, ap, ◌∙◌, lit<, sym, arith}
use Rattle.std.proofs.lemmas.Result.{err_from_is_err_and}
use Rattle.outer_io.specs.declared.file_name.FileName.TheVariants.{Commit}
use Rattle.page_cache.specs.declared.faults.PageFault.{PageFault}
use Rattle.index_core.specs.Sessions.{Trusts}
use Rattle.index_core.proofs.Brought.{commit_after, commit_itself}
use Rattle.index_core.proofs.FaultCauses.{fault_to, memory_cause}
use Rattle.index_core.proofs.Undone.{begins_none, levels_after, undone_after, undone_kept}
use Rattle.stored_index.proofs.KeptFiles.{kept_itself}
use Rattle.drawn_points.specs.Generated.{generate_answer}
use Rattle.generate_index.specs.Generates.{drawn_index}
use Rattle.generate_index.proofs.Ended.{cause_done, created, ends_early, ends_made, ends_uncommitted}
use Rattle.generate_index.proofs.Ended.{ends_uncreated, ends_unsaid, fault_evident, made_canon, memory_evident}
use Rattle.generate_index.proofs.Making.{created_trusts, makes_trusts}
use Rattle.generate_index.proofs.generator.generate_first.Goals as goal
use Rattle.segment_set.proofs.Saving.{cause_after}

pub create-requires : goal.create-requires
create-requires g c = (lit< tt, ((omega arith, omega arith), (omega (arith, c.greatest_leaf.ensures), omega (arith, c.greatest_leaf.ensures))))

pub fill-requires-clause-few : goal.fill-requires-clause-few
fill-requires-clause-few g c κs within = c.requires

pub fill-requires-clause-none : goal.fill-requires-clause-none
fill-requires-clause-none g c κs within = sym (c.in_ok-session.ensures.seen (g.F.Pages.files c.args.folder.now)).points_given

pub returns-in_err-session-clause-generates : goal.returns-in_err-session-clause-generates
returns-in_err-session-clause-generates g c told none =
    let p = err_from_is_err_and c.from_residual.result c.from_residual.ensures.1 in
    ends_uncreated (g.F.Pages.files c.args.folder.now) (generate_answer None c.args.docs c.args.seed) c.args.text.now.items c.args.text.now.items
    _ (p.1 ∙ ap (λ (e : PageFault). Err e) p.2) none

pub returns-in_err-summary-clause-generates : goal.returns-in_err-summary-clause-generates
returns-in_err-summary-clause-generates g c told none =
    let p = err_from_is_err_and c.from_residual-in_err-summary.result c.from_residual-in_err-summary.ensures.1 in
    ends_early _ c.args.seed c.args.docs _ _ (generate_answer None c.args.docs c.args.seed) c.args.text.now.items c.args.text.now.items
    c.in_err-summary.field-0.0
    _ (p.1 ∙ ap (λ (e : PageFault). Err e) p.2) c.in_err-summary.ensures.makes told
    (created c.args.seed c.greatest_leaf.result (g.F.Pages.files c.args.folder.now) c.in_ok-session.session (g.F.Pages.faults c.args.folder.now)
    c.greatest_leaf.ensures (c.documents_deleted.ensures.none c.args.seed 0) (c.documents_added.ensures.none c.args.seed) none
    (c.in_ok-session.ensures.seen (g.F.Pages.files c.args.folder.now))
    (c.in_ok-session.ensures.guards (g.F.Pages.files c.args.folder.now) none) c.in_ok-session.ensures.bare)

pub returns-in_err-put_summary-clause-generates : goal.returns-in_err-put_summary-clause-generates
returns-in_err-put_summary-clause-generates g c told none =
    let p = err_from_is_err_and c.from_residual-in_err-put_summary.result c.from_residual-in_err-put_summary.ensures.1 in
    ends_unsaid _ c.args.seed c.args.docs _ _ c.in_ok-summary.summary (generate_answer None c.args.docs c.args.seed) c.args.text.now.items
    c.put_summary.new.text.items _ (p.1 ∙ ap (λ (e : PageFault). Err e) p.2) c.in_ok-summary.ensures.makes told
    (created c.args.seed c.greatest_leaf.result (g.F.Pages.files c.args.folder.now) c.in_ok-session.session (g.F.Pages.faults c.args.folder.now)
    c.greatest_leaf.ensures (c.documents_deleted.ensures.none c.args.seed 0) (c.documents_added.ensures.none c.args.seed) none
    (c.in_ok-session.ensures.seen (g.F.Pages.files c.args.folder.now))
    (c.in_ok-session.ensures.guards (g.F.Pages.files c.args.folder.now) none) c.in_ok-session.ensures.bare)

pub returns-in_err-commit-clause-generates : goal.returns-in_err-commit-clause-generates
returns-in_err-commit-clause-generates g c told none =
    let p = err_from_is_err_and c.from_residual-in_err-commit.result c.from_residual-in_err-commit.ensures.1 in
    ends_uncommitted _ c.args.seed c.args.docs _ _ _ c.in_ok-summary.summary c.args.text.now.items c.put_summary.new.text.items c.in_err-commit.field-0.0
    _ (p.1 ∙ ap (λ (e : PageFault). Err e) p.2) (c.index_made.ensures c.args.seed c.args.docs (omega (arith, c.requires))) c.in_ok-summary.ensures.makes
    (record {
      seen = c.in_err-commit.ensures.seen;
      stays = c.in_err-commit.ensures.stays;
      durable = c.in_err-commit.ensures.durable;
      done = tt;
      canon = c.in_err-commit.ensures.canon;
      faults = c.in_err-commit.ensures.faults;
    })
    told (created c.args.seed c.greatest_leaf.result (g.F.Pages.files c.args.folder.now) c.in_ok-session.session (g.F.Pages.faults c.args.folder.now)
    c.greatest_leaf.ensures (c.documents_deleted.ensures.none c.args.seed 0) (c.documents_added.ensures.none c.args.seed) none
    (c.in_ok-session.ensures.seen (g.F.Pages.files c.args.folder.now))
    (c.in_ok-session.ensures.guards (g.F.Pages.files c.args.folder.now) none) c.in_ok-session.ensures.bare)

pub returns-clause-generates : goal.returns-clause-generates
returns-clause-generates g c told none =
    ends_made _ c.args.seed c.args.docs _ _ _ c.in_ok-summary.summary tt _ _ _ _ c.args.text.now.items c.put_summary.new.text.items
    (c.index_made.ensures c.args.seed c.args.docs (omega (arith, c.requires))) c.in_ok-put_summary.ensures
    (c.in_ok-summary.ensures.summary told
    (created c.args.seed c.greatest_leaf.result (g.F.Pages.files c.args.folder.now) c.in_ok-session.session (g.F.Pages.faults c.args.folder.now)
    c.greatest_leaf.ensures (c.documents_deleted.ensures.none c.args.seed 0) (c.documents_added.ensures.none c.args.seed) none
    (c.in_ok-session.ensures.seen (g.F.Pages.files c.args.folder.now))
    (c.in_ok-session.ensures.guards (g.F.Pages.files c.args.folder.now) none) c.in_ok-session.ensures.bare).made) c.in_ok-summary.ensures.makes
    (record {
      seen = c.in_ok-commit.ensures.seen;
      stays = c.in_ok-commit.ensures.stays;
      durable = c.in_ok-commit.ensures.durable;
      done = c.in_ok-commit.ensures.done;
      canon = c.in_ok-commit.ensures.canon;
      faults = c.in_ok-commit.ensures.faults;
    })
    told (created c.args.seed c.greatest_leaf.result (g.F.Pages.files c.args.folder.now) c.in_ok-session.session (g.F.Pages.faults c.args.folder.now)
    c.greatest_leaf.ensures (c.documents_deleted.ensures.none c.args.seed 0) (c.documents_added.ensures.none c.args.seed) none
    (c.in_ok-session.ensures.seen (g.F.Pages.files c.args.folder.now))
    (c.in_ok-session.ensures.guards (g.F.Pages.files c.args.folder.now) none) c.in_ok-session.ensures.bare)

pub returns-clause-canon : goal.returns-clause-canon
returns-clause-canon g c told none =
    made_canon _ c.args.seed c.args.docs _ _ _ c.in_ok-summary.summary tt c.in_ok-summary.ensures.makes
    (record {
      seen = c.in_ok-commit.ensures.seen;
      stays = c.in_ok-commit.ensures.stays;
      durable = c.in_ok-commit.ensures.durable;
      done = c.in_ok-commit.ensures.done;
      canon = c.in_ok-commit.ensures.canon;
      faults = c.in_ok-commit.ensures.faults;
    })
    told (created c.args.seed c.greatest_leaf.result (g.F.Pages.files c.args.folder.now) c.in_ok-session.session (g.F.Pages.faults c.args.folder.now)
    c.greatest_leaf.ensures (c.documents_deleted.ensures.none c.args.seed 0) (c.documents_added.ensures.none c.args.seed) none
    (c.in_ok-session.ensures.seen (g.F.Pages.files c.args.folder.now))
    (c.in_ok-session.ensures.guards (g.F.Pages.files c.args.folder.now) none) c.in_ok-session.ensures.bare)

-- creating the session answers no damage
pub returns-in_err-session-clause-evident : goal.returns-in_err-session-clause-evident
returns-in_err-session-clause-evident g c =
    let p = err_from_is_err_and c.from_residual.result c.from_residual.ensures.1 in
    memory_evident (IsTrue g.F.Pages.told × (g.F.Pages.files c.args.folder.now Commit ≡ None)) _ _ (p.1 ∙ ap (λ (e : PageFault). Err e) p.2)

pub returns-in_err-summary-clause-evident : goal.returns-in_err-summary-clause-evident
returns-in_err-summary-clause-evident g c =
    let p = err_from_is_err_and c.from_residual-in_err-summary.result c.from_residual-in_err-summary.ensures.1 in
    fault_evident (IsTrue g.F.Pages.told) (g.F.Pages.files c.args.folder.now Commit ≡ None)
    (Trusts 2 (g.F.Pages.files c.args.folder.now) c.in_ok-session.session) (g.F.Pages.files c.fill.new.folder) c.in_err-summary.field-0.0
    _ (p.1 ∙ ap (λ (e : PageFault). Err e) p.2)
    (λ told none. created_trusts (g.F.Pages.files c.args.folder.now) c.in_ok-session.session
    (c.in_ok-session.ensures.guards (g.F.Pages.files c.args.folder.now) none) (c.in_ok-session.ensures.faithful (g.F.Pages.files c.args.folder.now))
    (c.in_ok-session.ensures.traced (g.F.Pages.files c.args.folder.now)))
    c.in_err-summary.ensures.makes.evident

pub returns-in_err-put_summary-clause-evident : goal.returns-in_err-put_summary-clause-evident
returns-in_err-put_summary-clause-evident g c =
    let p = err_from_is_err_and c.from_residual-in_err-put_summary.result c.from_residual-in_err-put_summary.ensures.1 in
    memory_evident (IsTrue g.F.Pages.told × (g.F.Pages.files c.args.folder.now Commit ≡ None)) _ _ (p.1 ∙ ap (λ (e : PageFault). Err e) p.2)

pub returns-in_err-commit-clause-evident : goal.returns-in_err-commit-clause-evident
returns-in_err-commit-clause-evident g c =
    let p = err_from_is_err_and c.from_residual-in_err-commit.result c.from_residual-in_err-commit.ensures.1 in
    fault_evident (IsTrue g.F.Pages.told) (g.F.Pages.files c.args.folder.now Commit ≡ None) (Trusts 2 (g.F.Pages.files c.fill.new.folder) c.fill.new.session)
    (g.F.Pages.files c.commit.new.folder) c.in_err-commit.field-0.0 _ (p.1 ∙ ap (λ (e : PageFault). Err e) p.2)
    (λ told none. makes_trusts _ _ _ _ _ _ c.in_ok-summary.ensures.makes told
    (created_trusts (g.F.Pages.files c.args.folder.now) c.in_ok-session.session (c.in_ok-session.ensures.guards (g.F.Pages.files c.args.folder.now) none)
    (c.in_ok-session.ensures.faithful (g.F.Pages.files c.args.folder.now)) (c.in_ok-session.ensures.traced (g.F.Pages.files c.args.folder.now))))
    c.in_err-commit.ensures.faults.evident

-- want of memory for the session is no fault of the folder
pub returns-in_err-session-clause-cause : goal.returns-in_err-session-clause-cause
returns-in_err-session-clause-cause g c =
    let p = err_from_is_err_and c.from_residual.result c.from_residual.ensures.1 in
    rw (p.1 ∙ ap (λ (e : PageFault). Err e) p.2) (memory_cause _ _ (omega arith))

pub returns-in_err-summary-clause-cause : goal.returns-in_err-summary-clause-cause
returns-in_err-summary-clause-cause g c =
    let p = err_from_is_err_and c.from_residual-in_err-summary.result c.from_residual-in_err-summary.ensures.1 in
    rw (p.1 ∙ ap (λ (e : PageFault). Err e) p.2) (fault_to _ _ c.in_err-summary.field-0.0 c.in_err-summary.ensures.makes.cause)

pub returns-in_err-put_summary-clause-cause : goal.returns-in_err-put_summary-clause-cause
returns-in_err-put_summary-clause-cause g c =
    let p = err_from_is_err_and c.from_residual-in_err-put_summary.result c.from_residual-in_err-put_summary.ensures.1 in
    rw (p.1 ∙ ap (λ (e : PageFault). Err e) p.2) (memory_cause _ _ c.in_ok-summary.ensures.makes.cause.later)

pub returns-in_err-commit-clause-cause : goal.returns-in_err-commit-clause-cause
returns-in_err-commit-clause-cause g c =
    let p = err_from_is_err_and c.from_residual-in_err-commit.result c.from_residual-in_err-commit.ensures.1 in
    rw (p.1 ∙ ap (λ (e : PageFault). Err e) p.2)
    (cause_after _ _ _ _ c.in_ok-summary.ensures.makes.cause.on_ok (fault_to _ _ c.in_err-commit.field-0.0 c.in_err-commit.ensures.faults.cause))

pub returns-clause-cause : goal.returns-clause-cause
returns-clause-cause g c = cause_done _ _ _ c.in_ok-summary.summary tt false c.in_ok-summary.ensures.makes.cause c.in_ok-commit.ensures.faults.cause

-- what is kept, and how few are listed
pub returns-in_err-session-clause-undone : goal.returns-in_err-session-clause-undone
returns-in_err-session-clause-undone g c told none =
    let p = err_from_is_err_and c.from_residual.result c.from_residual.ensures.1 in
    undone_kept (g.F.Pages.files c.args.folder.now) (g.F.Pages.files c.args.folder.now) _ _ (p.1 ∙ ap (λ (e : PageFault). Err e) p.2)
    (kept_itself (g.F.Pages.files c.args.folder.now))

pub returns-in_err-summary-clause-undone : goal.returns-in_err-summary-clause-undone
returns-in_err-summary-clause-undone g c told none =
    let p = err_from_is_err_and c.from_residual-in_err-summary.result c.from_residual-in_err-summary.ensures.1 in
    undone_kept (g.F.Pages.files c.args.folder.now) (g.F.Pages.files c.fill.new.folder) _ _ (p.1 ∙ ap (λ (e : PageFault). Err e) p.2)
    (c.in_err-summary.ensures.makes.kept told (c.in_ok-session.ensures.guards (g.F.Pages.files c.args.folder.now) none))

pub returns-in_err-put_summary-clause-undone : goal.returns-in_err-put_summary-clause-undone
returns-in_err-put_summary-clause-undone g c told none =
    let p = err_from_is_err_and c.from_residual-in_err-put_summary.result c.from_residual-in_err-put_summary.ensures.1 in
    undone_kept (g.F.Pages.files c.args.folder.now) (g.F.Pages.files c.fill.new.folder) _ _ (p.1 ∙ ap (λ (e : PageFault). Err e) p.2)
    (c.in_ok-summary.ensures.makes.kept told (c.in_ok-session.ensures.guards (g.F.Pages.files c.args.folder.now) none))

pub returns-in_err-commit-clause-undone : goal.returns-in_err-commit-clause-undone
returns-in_err-commit-clause-undone g c told none =
    let p = err_from_is_err_and c.from_residual-in_err-commit.result c.from_residual-in_err-commit.ensures.1 in
    let guards = (c.in_ok-session.ensures.guards (g.F.Pages.files c.args.folder.now) none) in
    rw (p.1 ∙ ap (λ (e : PageFault). Err e) p.2)
    (undone_after {T = Bool} (g.F.Pages.files c.args.folder.now) (g.F.Pages.files c.fill.new.folder) (g.F.Pages.files c.commit.new.folder)
    (Err c.in_err-commit.field-0.0) (c.in_ok-summary.ensures.makes.kept told guards)
    (c.in_err-commit.ensures.durable.undone told (c.in_ok-summary.ensures.makes.guards told guards)))

pub returns-clause-undone : goal.returns-clause-undone
returns-clause-undone g c told none = tt

pub returns-clause-levels : goal.returns-clause-levels
returns-clause-levels g c told none =
    let guards = (c.in_ok-session.ensures.guards (g.F.Pages.files c.args.folder.now) none) in
    let seen = c.in_ok-summary.ensures.makes.made told
    (created c.args.seed c.greatest_leaf.result (g.F.Pages.files c.args.folder.now) c.in_ok-session.session (g.F.Pages.faults c.args.folder.now)
    c.greatest_leaf.ensures (c.documents_deleted.ensures.none c.args.seed 0) (c.documents_added.ensures.none c.args.seed) none
    (c.in_ok-session.ensures.seen (g.F.Pages.files c.args.folder.now))
    (c.in_ok-session.ensures.guards (g.F.Pages.files c.args.folder.now) none) c.in_ok-session.ensures.bare).made in
    levels_after (g.F.Pages.files c.args.folder.now) (g.F.Pages.files c.fill.new.folder) (g.F.Pages.files c.commit.new.folder)
    (c.in_ok-summary.ensures.makes.kept told guards)
    (c.in_ok-commit.ensures.done.few told (c.in_ok-summary.ensures.makes.guards told guards)
    (begins_none 2 (g.F.Pages.files c.fill.new.folder) c.fill.new.session.set (drawn_index c.args.seed c.args.docs c.args.docs) seen refl))

pub returns-in_err-session-clause-lasting : goal.returns-in_err-session-clause-lasting
returns-in_err-session-clause-lasting g c told none = commit_itself (g.F.Pages.files c.args.folder.now)

pub returns-in_err-summary-clause-lasting : goal.returns-in_err-summary-clause-lasting
returns-in_err-summary-clause-lasting g c told none =
    inl (c.in_err-summary.ensures.makes.kept told (c.in_ok-session.ensures.guards (g.F.Pages.files c.args.folder.now) none))

pub returns-in_err-put_summary-clause-lasting : goal.returns-in_err-put_summary-clause-lasting
returns-in_err-put_summary-clause-lasting g c told none =
    inl (c.in_ok-summary.ensures.makes.kept told (c.in_ok-session.ensures.guards (g.F.Pages.files c.args.folder.now) none))

pub returns-in_err-commit-clause-lasting : goal.returns-in_err-commit-clause-lasting
returns-in_err-commit-clause-lasting g c told none =
    commit_after (g.F.Pages.files c.args.folder.now) (g.F.Pages.files c.fill.new.folder) (g.F.Pages.files c.commit.new.folder)
    (c.in_ok-summary.ensures.makes.kept told (c.in_ok-session.ensures.guards (g.F.Pages.files c.args.folder.now) none))
    (c.in_err-commit.ensures.durable.lasting told (makes_trusts _ _ _ _ _ _ c.in_ok-summary.ensures.makes told
    (created_trusts (g.F.Pages.files c.args.folder.now) c.in_ok-session.session (c.in_ok-session.ensures.guards (g.F.Pages.files c.args.folder.now) none)
    (c.in_ok-session.ensures.faithful (g.F.Pages.files c.args.folder.now)) (c.in_ok-session.ensures.traced (g.F.Pages.files c.args.folder.now)))))

pub returns-clause-lasting : goal.returns-clause-lasting
returns-clause-lasting g c told none =
    commit_after (g.F.Pages.files c.args.folder.now) (g.F.Pages.files c.fill.new.folder) (g.F.Pages.files c.commit.new.folder)
    (c.in_ok-summary.ensures.makes.kept told (c.in_ok-session.ensures.guards (g.F.Pages.files c.args.folder.now) none))
    (c.in_ok-commit.ensures.durable.lasting told (makes_trusts _ _ _ _ _ _ c.in_ok-summary.ensures.makes told
    (created_trusts (g.F.Pages.files c.args.folder.now) c.in_ok-session.session (c.in_ok-session.ensures.guards (g.F.Pages.files c.args.folder.now) none)
    (c.in_ok-session.ensures.faithful (g.F.Pages.files c.args.folder.now)) (c.in_ok-session.ensures.traced (g.F.Pages.files c.args.folder.now)))))
