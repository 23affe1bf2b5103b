-- All is told, and the folder isn't asked.
use Rattle.std.proofs.Common.{Err, IsTrue, ap, refl, ◌∙◌}
use Rattle.std.proofs.lemmas.Result.{err_from_is_err_and}
use Rattle.page_cache.specs.declared.faults.PageFault.TheVariants as page
use Rattle.stored_index.proofs.KeptFiles.{kept_itself}
use Rattle.run_status.specs.declared.stop.Stop.{Stop}
use Rattle.run_status.proofs.Ending.{page_memory, sent_as}
use Rattle.batch_queries.proofs.MergeCalls.{stopped}
use Rattle.batch_queries.proofs.NoIndex.{none_told, sent_how}
use Rattle.batch_queries.proofs.merge_batch.tell_none.Goals as goal

pub returns-in_err-text : goal.returns-in_err-text
returns-in_err-text g c = λ told files faults.
    let p = err_from_is_err_and c.from_residual.result c.from_residual.ensures.1 in
    stopped {T = Unit {0}} (IsTrue told) _ _ _ _ _ page.Memory _ (p.1 ∙ ap (λ (e : Stop). Err e) p.2) (λ t none. kept_itself files) (λ t none state h. tt)
    (page_memory faults) tt refl

pub returns : goal.returns
returns g c = λ told files faults.
    none_told (IsTrue told) _ _ _ _ c.in_ok-text.text.bytes.items c.in_ok-text.text.refused c.send.result refl c.in_ok-text.ensures
    (λ out. sent_as _ _ _ _ c.send.result c.as_slice.ensures.value (c.send.ensures.text out)) c.send.ensures.sink
    (sent_how c.in_ok-text.text.refused c.send.result c.send.ensures.known c.send.ensures.cause)
