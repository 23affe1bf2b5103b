-- The points of the box are counted, and told.
use Rattle.std.proofs.Common.{ℕ, Err, IsTrue, refl, ap, ◌∙◌}
use Rattle.std.proofs.lemmas.Result.{err_from_is_err_and}
use Rattle.page_cache.specs.declared.faults.PageFault.{PageFault}
use Rattle.count_queries.specs.Asks.{box_from}
use Rattle.count_queries.proofs.Answering.{answers_done, answers_fault, answers_unsaid, points_touch, reads_evident}
use Rattle.count_queries.proofs.Telling.{points_told}
use Rattle.count_queries.proofs.answers.answer_points.Goals as goal

pub returns-in_err-n : goal.returns-in_err-n
returns-in_err-n g c =
    let p = err_from_is_err_and c.from_residual.result c.from_residual.ensures.1 in
    answers_fault {T = ℕ} g.row.D (IsTrue g.F.Pages.told) c.args.segments.now _ _ _ c.in_err-n.field-0.0 _ (p.1 ∙ ap (λ (e : PageFault). Err e) p.2) (record {
      files = c.in_err-n.ensures.calm.files;
      agrees = c.in_err-n.ensures.calm.agrees;
      reads = λ s e t tells. c.in_err-n.ensures.reads t.touched (points_touch g.row.D _ _ s t e (box_from (c.args.lo.now.c, c.args.hi.now.c)) tells);
      cause = c.in_err-n.ensures.cause;
      whole = λ told agrees s e. c.in_err-n.ensures.whole told agrees e.contents e.read;
      evident = reads_evident {T = ℕ} g.row.D (IsTrue g.F.Pages.told) (g.F.Pages.files c.args.folder.now) c.args.segments.now c.args.cache.now
          (Err c.in_err-n.field-0.0) c.in_err-n.ensures.damage c.in_err-n.ensures.shown;
    })

pub returns-in_err-put_points : goal.returns-in_err-put_points
returns-in_err-put_points g c =
    let p = err_from_is_err_and c.from_residual-in_err-put_points.result c.from_residual-in_err-put_points.ensures.1 in
    answers_unsaid {T = ℕ} g.row.D (IsTrue g.F.Pages.told) c.args.segments.now _ _ _ c.in_ok-n.n _ (p.1 ∙ ap (λ (e : PageFault). Err e) p.2) (record {
      files = c.in_ok-n.ensures.calm.files;
      agrees = c.in_ok-n.ensures.calm.agrees;
      reads = λ s e t tells. c.in_ok-n.ensures.reads t.touched (points_touch g.row.D _ _ s t e (box_from (c.args.lo.now.c, c.args.hi.now.c)) tells);
      cause = c.in_ok-n.ensures.cause;
      whole = λ told agrees s e. tt;
      evident = tt;
    })

pub returns : goal.returns
returns g c =
    answers_done {T = ℕ} g.row.D (IsTrue g.F.Pages.told) c.args.segments.now _ _ _ c.in_ok-n.n (record {
      files = c.in_ok-n.ensures.calm.files;
      agrees = c.in_ok-n.ensures.calm.agrees;
      reads = λ s e t tells. c.in_ok-n.ensures.reads t.touched (points_touch g.row.D _ _ s t e (box_from (c.args.lo.now.c, c.args.hi.now.c)) tells);
      cause = c.in_ok-n.ensures.cause;
      whole = λ told agrees s e. tt;
      evident = tt;
    })
    (λ told agrees s e. points_told g.row.D _ _ s _ _ _ refl e (box_from (c.args.lo.now.c, c.args.hi.now.c)) c.in_ok-n.n
    (c.in_ok-n.ensures.exact told agrees e.contents e.read) c.in_ok-put_points.ensures)
