use Rattle.std.proofs.Common.{◌≡◌, ◌<◌, ◌≤◌, ◌∙◌, [], length, take, drop, get_or, Some, refl, sym, ap, arith}
use Rattle.std.proofs.lemmas.List.{take_all, drop_all, length-take-le}
use Rattle.std.proofs.lemmas.Option.{slice_get-get_or, get_or_from_slice_get}
use Rattle.std.specs.Prelude.{slice_get}
use Rattle.point_codec.specs.Points.{Item}
use Rattle.documents.specs.NearestEntries.{nears_of}
use Rattle.nearest_query.specs.Parted.{gap2}
use Rattle.nearest_query.specs.Segments.{live_items}
use Rattle.nearest_query.proofs.Added.{added_none, added_same, no_item}
use Rattle.nearest_query.proofs.LeftOut.{added_both, far_added, far_above, up_more, up_rest}
use Rattle.nearest_query.proofs.outwards.offer_above.Goals as goal

pub loop-i-init : goal.loop-i-init
loop-i-init g c = record {
  room = refl;
  found = λ seen best. added_same seen [] _ c.args.found.now (added_none seen c.args.found.now best)
      (ap (λ xs. nears_of c.args.at.now.c (live_items c.args.live.now xs))
      (drop_all c.args.place (take c.args.place c.args.view.now) (omega (arith, length-take-le c.args.place c.args.view.now c.requires.within))));
}

pub loop-i-preserved : goal.loop-i-preserved
loop-i-preserved g c =
    let at = c.args.at.now.c in
    let live = c.args.live.now in
    let xs = c.args.view.now in
    let i = c.loop-i.i in
    let x : Item = get_or xs i no_item in
    let within : i < length xs = omega (arith, c.loop-i-test.true, c.count-i-end.ensures) in
    let from : c.args.place ≤ i = omega (arith, c.loop-i.auto.i) in
    let is : slice_get xs i ≡ Some x = slice_get-get_or xs i no_item within in
    record {
      room = c.in_ok-offer_entry.ensures.room ∙ c.loop-i.invariant.room;
      found = λ seen best.
          let was = c.loop-i.invariant.found seen best in
          added_both seen _ _ _ c.loop-i.found c.offer_entry.new.found was
          (c.in_ok-offer_entry.ensures.found x is was.after was.best)
          (λ f. up_more at live f xs c.args.place i x from within (get_or_from_slice_get xs i x x is));
    }

pub returns-then-is_beyond-clause-found : goal.returns-then-is_beyond-clause-found
returns-then-is_beyond-clause-found g c = λ seen best.
    let at = c.args.at.now.c in
    let live = c.args.live.now in
    let xs = c.args.view.now in
    let i = c.loop-i.i in
    let x : Item = get_or xs i no_item in
    let within : i < length xs = omega (arith, c.loop-i-test.true, c.count-i-end.ensures) in
    let from : c.args.place ≤ i = omega (arith, c.loop-i.auto.i) in
    let is : slice_get xs i ≡ Some x = slice_get-get_or xs i no_item within in
    let was = c.loop-i.invariant.found seen best in
    let near = c.is_beyond.ensures c.if-is_beyond.true x is was.after was.best in
    added_both seen _ _ _ c.loop-i.found c.loop-i.found was
    (far_added at live c.loop-i.found (gap2 c.args.d at x) near (drop i xs)
    (far_above g.row.D c.args.d at c.args.place xs c.requires i x from within (λ e. get_or_from_slice_get xs i x e is)) was.after was.best)
    (λ f. up_rest at live f xs c.args.place i from)

pub returns-clause-found : goal.returns-clause-found
returns-clause-found g c = λ seen best. added_same seen _ _ c.loop-i.found (c.loop-i.invariant.found seen best)
    (ap (λ xs. nears_of c.args.at.now.c (live_items c.args.live.now (drop c.args.place xs)))
    (sym (take_all c.loop-i.i c.args.view.now (omega (arith, c.loop-i-test.false, c.count-i-end.ensures)))))
