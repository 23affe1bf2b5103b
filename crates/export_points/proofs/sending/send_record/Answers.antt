use Rattle.std.proofs.Common.{◌++◌, IsTrue, ◌∙◌}
use Rattle.std.proofs.lemmas.Result.{err_from_is_err_and}
use Rattle.leaf_codec.specs.LeafOrder.{item_of}
use Rattle.export_points.specs.Exported.{record_text}
use Rattle.export_points.proofs.Pieces.{none_cut, send_cut}
use Rattle.export_points.proofs.sending.send_record.Goals as goal

pub returns-in_err-put_record-clause-cut : goal.returns-in_err-put_record-clause-cut
returns-in_err-put_record-clause-cut g c =
    let e = err_from_is_err_and c.from_residual.result c.from_residual.ensures.1 in
    rw (e.1, e.2)
    (none_cut (IsTrue g.K.Sink.told) (c.args.piece.now.items ++ record_text (item_of c.args.entry.now)) (g.K.Sink.written c.args.out.now))

pub returns-in_err-send-clause-cut : goal.returns-in_err-send-clause-cut
returns-in_err-send-clause-cut g c =
    let e = err_from_is_err_and c.from_residual-in_err-send.result c.from_residual-in_err-send.ensures.1 in
    rw (e.1, e.2)
    (send_cut (IsTrue g.K.Sink.told) c.as_slice.result.now (c.args.piece.now.items ++ record_text (item_of c.args.entry.now))
    (g.K.Sink.written c.args.out.now) (g.K.Sink.written c.send.new.out) c.in_err-send.field-0.0
    (c.as_slice.ensures.value ∙ c.in_ok-put_record.ensures) c.in_err-send.ensures.text c.in_err-send.ensures.cause)
