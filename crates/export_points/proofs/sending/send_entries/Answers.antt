use Rattle.std.proofs.Common.{IsTrue, List, ap, subst}
use Rattle.std.proofs.lemmas.Result.{err_from_is_err_and}
use Rattle.point_codec.specs.Seen.{items_of}
use Rattle.point_codec.specs.declared.entries.Entry.{Entry}
use Rattle.export_points.specs.Ends.{IsCut}
use Rattle.export_points.proofs.InOrder.{in_order}
use Rattle.export_points.proofs.Pieces.{export_is, sent_last}
use Rattle.export_points.proofs.sending.send_entries.Goals as goal

pub returns-in_err-send_records-clause-sends : goal.returns-in_err-send_records-clause-sends
returns-in_err-send_records-clause-sends g c = λ docs n are.
    let whole = export_is c.args.as_ranges g.row.D docs c.in_ok-piece.piece.items c.put_header.new.text.items (items_of c.as_slice.result.now)
    (items_of c.put_in_order.new.entries.items) c.in_ok-piece.ensures.items c.in_ok-put_header.ensures
    (ap (λ (es : List (Entry g.row.D)). items_of es) c.as_slice.ensures.value)
    (in_order n (items_of c.args.entries.items) (items_of c.put_in_order.new.entries.items) docs are c.put_in_order.ensures.moved
    c.put_in_order.ensures.sorted) in
    let e = err_from_is_err_and c.from_residual-in_err-send_records.result c.from_residual-in_err-send_records.ensures.1 in
    rw (e.1, e.2)
    (subst (λ (text : List _). IsCut (IsTrue g.K.Sink.told) text (g.K.Sink.written c.args.out.now) (g.K.Sink.written c.send_records.new.out)
    c.in_err-send_records.field-0.0) whole c.in_err-send_records.ensures.cut)

pub returns-clause-sends : goal.returns-clause-sends
returns-clause-sends g c = λ docs n are.
    let whole = export_is c.args.as_ranges g.row.D docs c.in_ok-piece.piece.items c.put_header.new.text.items (items_of c.as_slice.result.now)
    (items_of c.put_in_order.new.entries.items) c.in_ok-piece.ensures.items c.in_ok-put_header.ensures
    (ap (λ (es : List (Entry g.row.D)). items_of es) c.as_slice.ensures.value)
    (in_order n (items_of c.args.entries.items) (items_of c.put_in_order.new.entries.items) docs are c.put_in_order.ensures.moved
    c.put_in_order.ensures.sorted) in
    sent_last (IsTrue g.K.Sink.told) c.send_records.new.piece.items (g.K.Sink.written c.args.out.now) (g.K.Sink.written c.send_records.new.out)
    (g.K.Sink.written c.send.new.out) _ _ c.send.result c.as_slice-2.ensures.value whole c.in_ok-send_records.ensures.sent
    c.send.ensures.known c.send.ensures.text c.send.ensures.cause
