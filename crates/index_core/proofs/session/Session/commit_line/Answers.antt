-- The line `commit` does what a commit does, with `ok` behind the text; after a fault it leaves what a commit leaves.
use Rattle.std.proofs.Common.{Err, ap, ◌∙◌, inr, ⊎_elim}
use Rattle.std.proofs.lemmas.Result.{err_from_is_err_and}
use Rattle.page_cache.specs.declared.faults.PageFault.{PageFault}
use Rattle.script_lang.specs.Replies.{ok_text}
use Rattle.index_model.specs.Step.{step_on}
use Rattle.index_model.specs.declared.session.Applied.TheVariants as applied
use Rattle.index_opening.proofs.Evident.{on_evident_wider}
use Rattle.index_core.specs.Carried.{IsFileOf}
use Rattle.index_core.proofs.Answering.{applies_is, begins_itself, begins_same, begins_with, does_done, does_fault}
use Rattle.index_core.proofs.FaultCauses.{done_cause, fault_to, memory_cause}
use Rattle.page_cache.specs.declared.faults.PageFault.TheVariants as page
use Rattle.index_core.proofs.Showing.{damage_to, merge_none, merge_to}
use Rattle.index_core.proofs.Keeping.{fault_keeps}
use Rattle.index_core.proofs.session.Session.commit_line.Goals as goal

pub returns-clause-applies : goal.returns-clause-applies
unfolding step_on
returns-clause-applies g c = record {
  does = λ told i seen guards. does_done _ _ i i _ ok_text _ _ (c.commit.ensures.seen told i seen) c.in_ok-put_ok.ensures.ok;
  begins = begins_with _ _ _ c.in_ok-put_ok.ensures.ok;
  stays = c.commit.ensures.stays;
  keeps = record {
    kept = c.in_ok-commit.ensures.durable.kept;
    stored = λ told i seen guards e. c.in_ok-commit.ensures.durable.stored told i seen guards;
    own = c.commit.ensures.durable.own;
    lasting = c.commit.ensures.durable.lasting;
  };
  commits = λ e. record {
    idle = λ told unchanged. (c.commit.ensures.idle unchanged).2;
    unchanged = c.in_ok-commit.ensures.done.unchanged;
    anew = c.in_ok-commit.ensures.done.anew;
    levels = c.in_ok-commit.ensures.done.levels;
  };
  canon = λ told i seen guards. c.commit.ensures.canon told;
  faults = record {
    cause = done_cause _ _ c.in_ok-commit.field-0 applied.Done c.in_ok-commit.ensures.faults.cause;
    whole = λ told i seen guards. tt;
    evident = tt;
  };
}

pub returns-in_err-commit-clause-applies : goal.returns-in_err-commit-clause-applies
returns-in_err-commit-clause-applies g c =
    let p = err_from_is_err_and c.from_residual.result c.from_residual.ensures.1 in
    applies_is _ _ _ _ _ _ _ _ (p.1 ∙ ap (λ (e : PageFault). Err e) p.2) (record {
      does = λ told i seen guards. does_fault _ _ _ i _ _ _ _ (c.commit.ensures.seen told i seen);
      begins = begins_itself _;
      stays = c.commit.ensures.stays;
      keeps = record {
        kept = c.in_err-commit.ensures.durable.kept;
        stored = λ told i seen guards e. c.in_err-commit.ensures.durable.stored told i seen guards;
        own = c.commit.ensures.durable.own;
        lasting = c.commit.ensures.durable.lasting;
      };
      commits = λ e. record {
        idle = λ told unchanged. (c.commit.ensures.idle unchanged).2;
        unchanged = tt;
        anew = λ changed. tt;
        levels = λ changed none. tt;
      };
      canon = λ told i seen guards. c.commit.ensures.canon told;
      faults = record {
        cause = fault_to _ _ c.in_err-commit.field-0.0 c.in_err-commit.ensures.faults.cause;
        whole = λ told i seen guards. c.in_err-commit.ensures.faults.whole told i seen;
        evident = on_evident_wider {X = Unit {0}} (IsFileOf _ _ _) _ _ _ (Err c.in_err-commit.field-0.0) (λ t. t) c.in_err-commit.ensures.faults.evident;
      };
    })

pub returns-in_err-put_ok-clause-applies : goal.returns-in_err-put_ok-clause-applies
returns-in_err-put_ok-clause-applies g c =
    let p = err_from_is_err_and c.from_residual-in_err-put_ok.result c.from_residual-in_err-put_ok.ensures.1 in
    applies_is _ _ _ _ _ _ _ _ (p.1 ∙ ap (λ (e : PageFault). Err e) p.2) (record {
      does = λ told i seen guards. does_fault _ _ _ i _ _ _ _ (c.commit.ensures.seen told i seen);
      begins = begins_same _ _ c.in_err-put_ok.ensures.memory;
      stays = c.commit.ensures.stays;
      keeps = record {
        kept = c.commit.ensures.flight;
        stored = λ told i seen guards e. inr (c.in_ok-commit.ensures.durable.stored told i seen guards).0;
        own = c.commit.ensures.durable.own;
        lasting = c.commit.ensures.durable.lasting;
      };
      commits = λ e. record {
        idle = λ told unchanged. (c.commit.ensures.idle unchanged).2;
        unchanged = tt;
        anew = λ changed. tt;
        levels = λ changed none. tt;
      };
      canon = λ told i seen guards. c.commit.ensures.canon told;
      faults = record {
        cause = memory_cause _ _ c.commit.ensures.faults.cause.later;
        whole = λ told i seen guards. tt;
        evident = tt;
      };
    })

pub returns-in_err-commit-clause-reads : goal.returns-in_err-commit-clause-reads
returns-in_err-commit-clause-reads g c which = ⊎_elim (λ unchanged. (c.commit.ensures.idle unchanged).3) (λ settled. c.commit.ensures.rested settled) which

pub returns-in_err-put_ok-clause-reads : goal.returns-in_err-put_ok-clause-reads
returns-in_err-put_ok-clause-reads g c which = ⊎_elim (λ unchanged. (c.commit.ensures.idle unchanged).3) (λ settled. c.commit.ensures.rested settled) which

pub returns-clause-reads : goal.returns-clause-reads
returns-clause-reads g c which = ⊎_elim (λ unchanged. (c.commit.ensures.idle unchanged).3) (λ settled. c.commit.ensures.rested settled) which

pub returns-in_err-commit-clause-damage : goal.returns-in_err-commit-clause-damage
returns-in_err-commit-clause-damage g c =
    let p = err_from_is_err_and c.from_residual.result c.from_residual.ensures.1 in
    merge_to _ _ _ _ _ _ c.in_err-commit.field-0.0 (p.1 ∙ ap (λ (e : PageFault). Err e) p.2) c.in_err-commit.ensures.damage

pub returns-in_err-put_ok-clause-damage : goal.returns-in_err-put_ok-clause-damage
returns-in_err-put_ok-clause-damage g c =
    let p = err_from_is_err_and c.from_residual-in_err-put_ok.result c.from_residual-in_err-put_ok.ensures.1 in
    merge_none _ _ _ _ _ _ (damage_to _ _ page.Memory (p.1 ∙ ap (λ (e : PageFault). Err e) p.2) tt)

pub returns-clause-damage : goal.returns-clause-damage
returns-clause-damage g c = merge_none _ _ _ _ _ _ tt

pub returns-in_err-commit-clause-unread : goal.returns-in_err-commit-clause-unread
returns-in_err-commit-clause-unread g c =
    let p = err_from_is_err_and c.from_residual.result c.from_residual.ensures.1 in
    fault_keeps _ _ _ (p.1 ∙ ap (λ (e : PageFault). Err e) p.2)

pub returns-in_err-put_ok-clause-unread : goal.returns-in_err-put_ok-clause-unread
returns-in_err-put_ok-clause-unread g c =
    let p = err_from_is_err_and c.from_residual-in_err-put_ok.result c.from_residual-in_err-put_ok.ensures.1 in
    fault_keeps _ _ _ (p.1 ∙ ap (λ (e : PageFault). Err e) p.2)

pub returns-clause-unread : goal.returns-clause-unread
returns-clause-unread g c = tt

pub returns-in_err-commit-clause-arranged : goal.returns-in_err-commit-clause-arranged
returns-in_err-commit-clause-arranged g c = c.commit.ensures.arranged

pub returns-in_err-put_ok-clause-arranged : goal.returns-in_err-put_ok-clause-arranged
returns-in_err-put_ok-clause-arranged g c = c.commit.ensures.arranged

pub returns-clause-arranged : goal.returns-clause-arranged
returns-clause-arranged g c = c.commit.ensures.arranged

pub returns-in_err-commit-clause-lasts : goal.returns-in_err-commit-clause-lasts
returns-in_err-commit-clause-lasts g c = c.commit.ensures.durable.lasts

pub returns-in_err-put_ok-clause-lasts : goal.returns-in_err-put_ok-clause-lasts
returns-in_err-put_ok-clause-lasts g c = c.commit.ensures.durable.lasts

pub returns-clause-lasts : goal.returns-clause-lasts
returns-clause-lasts g c = c.commit.ensures.durable.lasts
