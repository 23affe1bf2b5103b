-- A session over a commit that the file says guards it.
use Rattle.std.proofs.Common.{◌≤◌, Err, refl, subst, ap, ◌∙◌}
use Rattle.std.proofs.lemmas.Result.{err_from_is_err_and}
use Rattle.page_cache.specs.declared.faults.PageFault.{PageFault}
use Rattle.index_core.proofs.Attached.{finds_kept}
use Rattle.index_core.proofs.Carrying.{attached_listed}
use Rattle.index_core.proofs.SetGuards.{guards_attached}
use Rattle.index_core.proofs.TracedCommits.{traced_attached}
use Rattle.segment_set.proofs.Sizes.{set_fits}
use Rattle.index_core.proofs.FaultCauses.{done_cause, fault_cause}
use Rattle.index_core.proofs.session.Session.attach.Goals as goal

pub returns-clause-attaches : goal.returns-clause-attaches
returns-clause-attaches g c = record {
  seen = c.in_ok-attach.ensures.seen;
  guards = λ told says.
      guards_attached _ _ _ c.args.commit refl c.requires says c.in_ok-attach.ensures.commit c.in_ok-attach.ensures.names (c.in_ok-attach.ensures.live told);
  faithful = λ told. c.in_ok-attach.ensures.faithful told;
  traced = λ told says.
      traced_attached _ _ _ c.args.commit c.requires says c.in_ok-attach.ensures.commit c.in_ok-attach.ensures.names (c.in_ok-attach.ensures.live told);
  finds = λ told says.
      finds_kept _ _ _ c.args.commit c.requires says c.in_ok-attach.ensures.commit.as_committed (c.in_ok-attach.ensures.live told);
  own = λ told says. attached_listed _ _ c.args.commit says c.in_ok-attach.ensures.commit;
  unchanged = record { commit = c.args.commit; is = refl; done = refl; same = c.in_ok-attach.ensures.commit.as_committed };
  listed = λ m named. (c.args.commit, refl, (c.in_ok-attach.ensures.names m).0 named);
}

pub attach-requires : goal.attach-requires
attach-requires g c = (set_fits g.row.D (subst (λ n. n ≤ 8) c.requires c.dims-dims.ensures.commit.ranges.most_dims), c.requires)

pub returns-in_err-attach-clause-attaches : goal.returns-in_err-attach-clause-attaches
returns-in_err-attach-clause-attaches g c =
    let p = err_from_is_err_and c.from_residual.result c.from_residual.ensures.1 in
    record {
      seen = λ told says i stored. rw p.1 tt;
      guards = λ told says. rw p.1 tt;
      faithful = λ told. rw p.1 tt;
      traced = λ told says. rw p.1 tt;
      finds = λ told says. rw p.1 tt;
      own = λ told says. rw p.1 tt;
      unchanged = rw p.1 tt;
      listed = rw p.1 tt;
    }

pub returns-in_err-attach-clause-cause : goal.returns-in_err-attach-clause-cause
returns-in_err-attach-clause-cause g c =
    let p = err_from_is_err_and c.from_residual.result c.from_residual.ensures.1 in
    fault_cause _ _ c.in_err-attach.field-0.0 _ (p.1 ∙ ap (λ (e : PageFault). Err e) p.2) c.in_err-attach.ensures.cause

pub returns-in_err-attach-clause-damaged : goal.returns-in_err-attach-clause-damaged
returns-in_err-attach-clause-damaged g c =
    let p = err_from_is_err_and c.from_residual.result c.from_residual.ensures.1 in
    rw (p.1, p.2) c.in_err-attach.ensures.damaged

pub returns-clause-cause : goal.returns-clause-cause
returns-clause-cause g c = done_cause _ _ _ _ c.in_ok-attach.ensures.cause

pub returns-clause-damaged : goal.returns-clause-damaged
returns-clause-damaged g c = record { whole = λ told says state stored. tt; undefined = λ told says. tt; shown = tt; damage = λ told. tt; evident = tt }
