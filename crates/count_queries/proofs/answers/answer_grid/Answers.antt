-- The buckets of the plan are counted, and told.
use Rattle.std.proofs.Common.{ℕ, ◌++◌, Err, IsTrue, List, refl, ap, ◌∙◌}
use Rattle.std.proofs.lemmas.Result.{err_from_is_err_and}
use Rattle.page_cache.specs.declared.faults.PageFault.{PageFault}
use Rattle.point_counts.specs.declared.plan.Bucket.{Bucket}
use Rattle.count_queries.specs.Texts.{buckets_text}
use Rattle.count_queries.proofs.Answering.{answers_done, answers_fault, answers_unsaid, buckets_touch, reads_evident}
use Rattle.count_queries.proofs.Telling.{buckets_told}
use Rattle.count_queries.proofs.answers.answer_grid.Goals as goal

pub returns-in_err-buckets : goal.returns-in_err-buckets
returns-in_err-buckets g c =
    let p = err_from_is_err_and c.from_residual.result c.from_residual.ensures.1 in
    answers_fault g.row.D (IsTrue g.F.Pages.told) c.args.segments.now _ _ _ c.in_err-buckets.field-0.0 _ (p.1 ∙ ap (λ (e : PageFault). Err e) p.2) (record {
      files = c.in_err-buckets.ensures.calm.files;
      agrees = c.in_err-buckets.ensures.calm.agrees;
      reads = λ s e t tells. c.in_err-buckets.ensures.reads t.touched (buckets_touch g.row.D _ _ s t e c.args.plan.now tells);
      cause = c.in_err-buckets.ensures.cause;
      whole = λ told agrees s e. c.in_err-buckets.ensures.whole told agrees e.contents e.read;
      evident = reads_evident {T = ℕ} g.row.D (IsTrue g.F.Pages.told) (g.F.Pages.files c.args.folder.now) c.args.segments.now c.args.cache.now
          (Err c.in_err-buckets.field-0.0) c.in_err-buckets.ensures.damage c.in_err-buckets.ensures.shown;
    })

pub returns-in_err-put_buckets : goal.returns-in_err-put_buckets
returns-in_err-put_buckets g c =
    let p = err_from_is_err_and c.from_residual-in_err-put_buckets.result c.from_residual-in_err-put_buckets.ensures.1 in
    answers_unsaid g.row.D (IsTrue g.F.Pages.told) c.args.segments.now _ _ _ c.in_ok-buckets.buckets _ (p.1 ∙ ap (λ (e : PageFault). Err e) p.2) (record {
      files = c.in_ok-buckets.ensures.calm.files;
      agrees = c.in_ok-buckets.ensures.calm.agrees;
      reads = λ s e t tells. c.in_ok-buckets.ensures.reads t.touched (buckets_touch g.row.D _ _ s t e c.args.plan.now tells);
      cause = c.in_ok-buckets.ensures.cause;
      whole = λ told agrees s e. tt;
      evident = tt;
    })

pub returns : goal.returns
returns g c =
    answers_done g.row.D (IsTrue g.F.Pages.told) c.args.segments.now _ _ _ c.in_ok-buckets.buckets (record {
      files = c.in_ok-buckets.ensures.calm.files;
      agrees = c.in_ok-buckets.ensures.calm.agrees;
      reads = λ s e t tells. c.in_ok-buckets.ensures.reads t.touched (buckets_touch g.row.D _ _ s t e c.args.plan.now tells);
      cause = c.in_ok-buckets.ensures.cause;
      whole = λ told agrees s e. tt;
      evident = tt;
    })
    (λ told agrees s e. buckets_told g.row.D _ _ s _ _ _ refl e c.args.plan.now c.in_ok-buckets.buckets.items
    (c.in_ok-buckets.ensures.exact told agrees e.contents e.read)
    (c.in_ok-put_buckets.ensures ∙ ap (λ (bs : List Bucket). c.args.reply.now.items ++ buckets_text bs) c.as_slice.ensures.value))
