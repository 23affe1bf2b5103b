-- The merge is ended, and what it leaves is committed.
use Rattle.std.proofs.Common.{Err, ap, refl, ◌∙◌}
use Rattle.std.proofs.lemmas.Result.{err_from_is_err_and}
use Rattle.page_cache.specs.declared.faults.PageFault.{PageFault}
use Rattle.index_core.proofs.Sizes.{session_fits}
use Rattle.batch_queries.proofs.Ended.{end_stopped, ended_committed}
use Rattle.index_model.proofs.Sizes.{command_fits}
use Rattle.batch_queries.proofs.begun.end_merge.Goals as goal

pub apply-requires-after_bounds : goal.apply-requires-after_bounds
apply-requires-after_bounds g c κs = λ _. (session_fits g.row.D c.requires, (command_fits g.row.D c.requires, (c.requires, (tt, refl))))

pub commit-requires-after_bounds : goal.commit-requires-after_bounds
commit-requires-after_bounds g c κs = λ _. session_fits g.row.D c.requires

pub returns-in_err-apply : goal.returns-in_err-apply
returns-in_err-apply g c = λ ids i.
    let p = err_from_is_err_and c.from_residual.result c.from_residual.ensures.1 in
    end_stopped g.row.D _ ids i _ _ c.in_err-apply.field-0.0 _ (p.1 ∙ ap (λ (e : PageFault). Err e) p.2) c.in_err-apply.ensures.applies
    c.in_err-apply.ensures.damage

pub returns : goal.returns
returns g c = λ ids i.
    ended_committed g.row.D _ ids i _ _ c.in_ok-apply.field-0 c.in_ok-apply.ensures.applies _ c.commit.result c.in_ok-apply.ensures.leaves
    (record {
      seen = c.commit.ensures.seen;
      stays = c.commit.ensures.stays;
      durable = c.commit.ensures.durable;
      done = c.commit.ensures.done;
      canon = c.commit.ensures.canon;
      faults = c.commit.ensures.faults;
    }) c.commit.ensures.follows
