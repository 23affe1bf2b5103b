use Rattle.std.proofs.Common.{◌++◌, ◌+◌, IsTrue, arith, ap, subst, ◌∙◌, take, drop}
use Rattle.std.specs.List.{flat_map}
use Rattle.std.proofs.lemmas.Result.{err_from_is_err_and}
use Rattle.point_codec.specs.Seen.{items_of}
use Rattle.leaf_codec.specs.LeafOrder.{item_of}
use Rattle.export_points.specs.Ends.{IsCut, IsSentBut}
use Rattle.export_points.specs.Exported.{record_text}
use Rattle.export_points.proofs.Pieces.{records_more, records_rest, then_cut, then_sent}
use Rattle.export_points.proofs.sending.send_records.Goals as goal

pub loop-entry-preserved : goal.loop-entry-preserved
loop-entry-preserved g c =
    let front = c.args.piece.now.items in
    let es = c.args.entries.now in
    let i = c.loop-entry.entry-index in
    let e = c.entry-item.result in
    record {
      sent = λ told. subst (λ text. IsSentBut c.send_record.new.piece.items (g.K.Sink.written c.args.out.now) (g.K.Sink.written c.send_record.new.out) text)
          (records_more front es i e c.loop-entry-test.true c.entry-item.is)
          (then_sent c.loop-entry.piece.items c.send_record.new.piece.items (g.K.Sink.written c.args.out.now) (g.K.Sink.written c.loop-entry.out)
          (g.K.Sink.written c.send_record.new.out) (front ++ flat_map record_text (items_of (take i es))) (record_text (item_of e))
          (c.loop-entry.invariant.sent told) (c.in_ok-send_record.ensures.sent told));
      later = omega (arith, c.loop-entry.invariant.later, c.in_ok-send_record.ensures.later);
    }

pub returns-in_err-send_record-clause-cut : goal.returns-in_err-send_record-clause-cut
returns-in_err-send_record-clause-cut g c =
    let front = c.args.piece.now.items in
    let es = c.args.entries.now in
    let i = c.loop-entry.entry-index in
    let x = c.entry-item.result in
    let e = err_from_is_err_and c.from_residual.result c.from_residual.ensures.1 in
    rw (e.1, e.2)
    (subst (λ text. IsCut (IsTrue g.K.Sink.told) text (g.K.Sink.written c.args.out.now) (g.K.Sink.written c.send_record.new.out) c.in_err-send_record.field-0.0)
    (ap (λ xs. xs ++ flat_map record_text (items_of (drop (i + 1) es))) (records_more front es i x c.loop-entry-test.true c.entry-item.is)
    ∙ records_rest front es (i + 1))
    (then_cut (IsTrue g.K.Sink.told) c.loop-entry.piece.items (g.K.Sink.written c.args.out.now) (g.K.Sink.written c.loop-entry.out)
    (g.K.Sink.written c.send_record.new.out) (front ++ flat_map record_text (items_of (take i es))) (record_text (item_of x))
    (flat_map record_text (items_of (drop (i + 1) es))) c.in_err-send_record.field-0.0 c.loop-entry.invariant.sent c.in_err-send_record.ensures.cut))
