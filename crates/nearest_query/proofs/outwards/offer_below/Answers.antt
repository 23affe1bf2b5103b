use Rattle.std.proofs.Common.{◌≡◌, ◌<◌, ◌+◌, ◌-◌, ◌∙◌, [], length, take, drop, get_or, Some, refl, ap, subst, arith}
use Rattle.std.proofs.lemmas.List.{drop_all, length-take-le}
use Rattle.std.proofs.lemmas.Option.{slice_get-get_or, get_or_from_slice_get}
use Rattle.std.specs.Prelude.{slice_get}
use Rattle.point_codec.specs.Points.{Item}
use Rattle.documents.specs.NearestEntries.{nears_of}
use Rattle.nearest_query.specs.Best.{AreAdded}
use Rattle.nearest_query.specs.Parted.{gap2}
use Rattle.nearest_query.specs.Segments.{live_items}
use Rattle.nearest_query.proofs.Added.{added_none, added_same, no_item}
use Rattle.nearest_query.proofs.LeftOut.{added_both, far_added, far_below, down_more, down_rest}
use Rattle.nearest_query.proofs.outwards.offer_below.Goals as goal

pub loop-i-init : goal.loop-i-init
loop-i-init g c = record {
  room = refl;
  found = λ seen best. added_same seen [] _ c.args.found.now (added_none seen c.args.found.now best)
      (ap (λ xs. nears_of c.args.at.now.c (live_items c.args.live.now xs))
      (drop_all c.args.place (take c.args.place c.args.view.now) (omega (arith, length-take-le c.args.place c.args.view.now c.requires.within))));
}

pub loop-i-preserved : goal.loop-i-preserved
loop-i-preserved g c =
    let at = c.args.at.now.c in
    let live = c.args.live.now in
    let xs = c.args.view.now in
    let i = c.loop-i.i - 1 in
    let x : Item = get_or xs i no_item in
    let next : c.loop-i.i ≡ i + 1 = omega (arith, c.loop-i-test.true) in
    let to : i < c.args.place = omega (arith, next, c.loop-i.auto.i) in
    let within : i < length xs = omega (arith, to, c.requires.within) in
    let is : slice_get xs i ≡ Some x = slice_get-get_or xs i no_item within in
    record {
      room = c.in_ok-offer_entry.ensures.room ∙ c.loop-i.invariant.room;
      found = λ seen best.
          let was = subst (λ n. AreAdded seen (nears_of at (live_items live (drop n (take c.args.place xs)))) c.loop-i.found) next
          (c.loop-i.invariant.found seen best) in
          added_both seen _ _ _ c.loop-i.found c.offer_entry.new.found was
          (c.in_ok-offer_entry.ensures.found x is was.after was.best)
          (λ f. down_more at live f xs c.args.place i x to within (get_or_from_slice_get xs i x x is));
    }

pub returns-then-is_beyond-clause-found : goal.returns-then-is_beyond-clause-found
returns-then-is_beyond-clause-found g c = λ seen best.
    let at = c.args.at.now.c in
    let live = c.args.live.now in
    let xs = c.args.view.now in
    let i = c.loop-i.i - 1 in
    let x : Item = get_or xs i no_item in
    let next : c.loop-i.i ≡ i + 1 = omega (arith, c.loop-i-test.true) in
    let to : i < c.args.place = omega (arith, next, c.loop-i.auto.i) in
    let within : i < length xs = omega (arith, to, c.requires.within) in
    let is : slice_get xs i ≡ Some x = slice_get-get_or xs i no_item within in
    let was =
    subst (λ n. AreAdded seen (nears_of at (live_items live (drop n (take c.args.place xs)))) c.loop-i.found) next (c.loop-i.invariant.found seen best) in
    let near = c.is_beyond.ensures c.if-is_beyond.true x is was.after was.best in
    added_both seen _ _ _ c.loop-i.found c.loop-i.found was
    (far_added at live c.loop-i.found (gap2 c.args.d at x) near (take (i + 1) xs)
    (far_below g.row.D c.args.d at c.args.place xs c.requires i x to (λ e. get_or_from_slice_get xs i x e is)) was.after was.best)
    (λ f. down_rest at live f xs c.args.place (i + 1) (omega (arith, to)))

pub returns-clause-found : goal.returns-clause-found
returns-clause-found g c = λ seen best.
    let none : c.loop-i.i ≡ 0 = omega (arith, c.loop-i-test.false) in
    subst (λ n. AreAdded seen (nears_of c.args.at.now.c (live_items c.args.live.now (drop n (take c.args.place c.args.view.now)))) c.loop-i.found) none
    (c.loop-i.invariant.found seen best)
