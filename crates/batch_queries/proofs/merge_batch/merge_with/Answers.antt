-- All is answered before the text goes out, and the merge is ended after it.
use Rattle.std.proofs.Common.{Err, ap, refl, ◌∙◌}
use Rattle.std.proofs.lemmas.Result.{err_from_is_err_and}
use Rattle.run_status.specs.declared.stop.Stop.{Stop}
use Rattle.batch_queries.proofs.MergeCalls.{sent_part, sent_whole, status_known}
use Rattle.batch_queries.proofs.Merged.{all_merged, beside_cut, beside_stopped, end_stopped}
use Rattle.batch_queries.proofs.merge_batch.merge_with.Goals as goal

pub returns-in_err-text : goal.returns-in_err-text
returns-in_err-text g c =
    let p = err_from_is_err_and c.from_residual.result c.from_residual.ensures.1 in
    beside_stopped g.row.D _ _ c.args.resident.now _ _ _ (g.K.Sink.written c.args.out.now) (g.K.Sink.written c.args.out.now) (g.K.Sink.faults c.args.out.now)
    (g.K.Sink.faults c.args.out.now) c.in_err-text.field-0.0 _ (p.1 ∙ ap (λ (s : Stop). Err s) p.2) c.in_err-text.ensures.begins

pub returns-in_err-refused : goal.returns-in_err-refused
returns-in_err-refused g c =
    let p = err_from_is_err_and c.from_residual-in_err-refused.result c.from_residual-in_err-refused.ensures.1 in
    beside_cut g.row.D _ _ c.args.resident.now _ _ _ (g.K.Sink.written c.args.out.now) (g.K.Sink.written c.send.new.out) (g.K.Sink.faults c.args.out.now)
    (g.K.Sink.faults c.send.new.out) c.in_ok-text.text c.in_ok-text.text.bytes.items c.in_ok-text.text.refused _
    (p.1 ∙ ap (λ (s : Stop). Err s) p.2 ∙ c.in_err-refused.ensures.cause) c.in_ok-text.ensures.begins c.in_ok-text.ensures.text
    (λ out. sent_part c.in_ok-text.text.bytes.items c.as_slice.result.now (g.K.Sink.written c.args.out.now) (g.K.Sink.written c.send.new.out)
    c.in_err-refused.field-0.0 c.as_slice.ensures.value c.in_err-refused.ensures.cause (c.in_err-refused.ensures.text out))
    (c.in_err-refused.ensures.sink c.in_err-refused.ensures.cause)

pub returns-in_err-end_merge : goal.returns-in_err-end_merge
returns-in_err-end_merge g c =
    let p = err_from_is_err_and c.from_residual-in_err-end_merge.result c.from_residual-in_err-end_merge.ensures.1 in
    end_stopped g.row.D _ _ c.args.resident.now _ _ _ (g.K.Sink.written c.args.out.now) (g.K.Sink.written c.send.new.out) (g.K.Sink.faults c.args.out.now)
    (g.K.Sink.faults c.send.new.out) c.in_ok-text.text c.in_ok-text.text.bytes.items c.in_ok-text.text.refused
    c.in_ok-text.ensures.begins c.in_ok-text.ensures.text
    (λ out. sent_whole c.in_ok-text.text.bytes.items c.as_slice.result.now (g.K.Sink.written c.args.out.now) (g.K.Sink.written c.send.new.out)
    c.as_slice.ensures.value (c.in_ok-refused.ensures.text out))
    _ (Err c.in_err-end_merge.field-0.0) c.in_err-end_merge.ensures c.in_err-end_merge.field-0.0 _ (p.1 ∙ ap (λ (s : Stop). Err s) p.2) refl

pub returns : goal.returns
returns g c =
    status_known _ _ _ _ _ _ c.in_ok-text.text.refused c.in_ok-refused.refused c.in_ok-refused.ensures.known
    (all_merged g.row.D _ _ c.args.resident.now _ _ _ (g.K.Sink.written c.args.out.now) (g.K.Sink.written c.send.new.out) (g.K.Sink.faults c.args.out.now)
    (g.K.Sink.faults c.send.new.out) c.in_ok-text.text c.in_ok-text.text.bytes.items c.in_ok-text.text.refused
    c.in_ok-text.ensures.begins c.in_ok-text.ensures.text
    (λ out. sent_whole c.in_ok-text.text.bytes.items c.as_slice.result.now (g.K.Sink.written c.args.out.now) (g.K.Sink.written c.send.new.out)
    c.as_slice.ensures.value (c.in_ok-refused.ensures.text out))
    _ _ c.in_ok-end_merge.ensures c.in_ok-end_merge.field-0 refl)
