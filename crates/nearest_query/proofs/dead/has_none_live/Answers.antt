use Rattle.std.proofs.Common.{◌≡◌, ◌<◌, false, Some, length, get_or, sym, ap, ◌∙◌, arith}
use Rattle.std.proofs.lemmas.Option.{slice_get-get_or}
use Rattle.std.specs.Prelude.{slice_get}
use Rattle.point_codec.specs.Points.{Item}
use Rattle.live_bits.specs.LiveSet.{is_live}
use Rattle.nearest_query.proofs.Added.{no_item, read_same}
use Rattle.nearest_query.proofs.LeftOut.{said_of}
use Rattle.nearest_query.proofs.Passed.{none_more}
use Rattle.nearest_query.proofs.dead.has_none_live.Goals as goal

pub loop-i-preserved : goal.loop-i-preserved
loop-i-preserved g c =
    let xs = c.args.view.now in
    let live = c.args.live.now in
    let x : Item = get_or xs c.loop-i.i no_item in
    let within : c.loop-i.i < length xs = omega (arith, c.loop-i-test.true, c.count-i-end.ensures) in
    let is : slice_get xs c.loop-i.i ≡ Some x = slice_get-get_or xs c.loop-i.i no_item within in
    let doc = said_of (λ y. c.doc.result ≡ y.doc) _ x is c.doc.ensures in
    let dead : is_live live x.doc ≡ false = ap (is_live live) (sym doc) ∙ sym c.is_live.ensures ∙ c.if-is_live.false in
    record { none = none_more live xs c.loop-i.i x within (read_same xs c.loop-i.i within) dead c.loop-i.invariant.none }
