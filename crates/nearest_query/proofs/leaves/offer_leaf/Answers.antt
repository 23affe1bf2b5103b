use Rattle.std.proofs.Common.{◌≡◌, ℤ, List, get_or, take, drop, int_le, int_lt, pos, true, subst, rules}
use Rattle.std.specs.List.{All}
use Rattle.point_codec.specs.Points.{Item}
use Rattle.leaf_codec.specs.Ascending.{coordinate}
use Rattle.documents.specs.NearestEntries.{nears_of}
use Rattle.nearest_query.specs.Best.{AreAdded}
use Rattle.nearest_query.specs.Segments.{live_items}
use Rattle.nearest_query.proofs.LeftOut.{added_both, sum_halves}
use Rattle.nearest_query.proofs.leaves.offer_leaf.Goals as goal
use Rattle.segment_file.proofs.Subtrees.{on_ok}

pub coordinates-requires : goal.coordinates-requires
coordinates-requires g c = (search rules, c.args.at.now.high)

pub offer_above-requires : goal.offer_above-requires
offer_above-requires g c = (
  search rules,
  (
    search rules,
    record {
      dims = c.coordinates.ensures.long;
      dimension = c.sorted_dimension-d.ensures.within;
      within = c.count_below-place.ensures.within;
      points = c.sorted_dimension-d.ensures.points;
      ascend = c.sorted_dimension-d.ensures.ascends;
      below = subst
          (λ (cs : List ℤ). All (λ (x : Item). int_lt (coordinate c.sorted_dimension-d.result x) (get_or cs c.sorted_dimension-d.result (pos 0)) ≡ true)
          (take c.count_below-place.result c.args.view.now)) c.coordinates.ensures.value c.count_below-place.ensures.below;
      above = subst
          (λ (cs : List ℤ). All (λ (x : Item). int_le (get_or cs c.sorted_dimension-d.result (pos 0)) (coordinate c.sorted_dimension-d.result x) ≡ true)
          (drop c.count_below-place.result c.args.view.now)) c.coordinates.ensures.value c.count_below-place.ensures.above;
    },
  ),
)

pub offer_below-requires : goal.offer_below-requires
offer_below-requires g c = (
  search rules,
  (
    search rules,
    record {
      dims = c.coordinates.ensures.long;
      dimension = c.sorted_dimension-d.ensures.within;
      within = c.count_below-place.ensures.within;
      points = c.sorted_dimension-d.ensures.points;
      ascend = c.sorted_dimension-d.ensures.ascends;
      below = subst
          (λ (cs : List ℤ). All (λ (x : Item). int_lt (coordinate c.sorted_dimension-d.result x) (get_or cs c.sorted_dimension-d.result (pos 0)) ≡ true)
          (take c.count_below-place.result c.args.view.now)) c.coordinates.ensures.value c.count_below-place.ensures.below;
      above = subst
          (λ (cs : List ℤ). All (λ (x : Item). int_le (get_or cs c.sorted_dimension-d.result (pos 0)) (coordinate c.sorted_dimension-d.result x) ≡ true)
          (drop c.count_below-place.result c.args.view.now)) c.coordinates.ensures.value c.count_below-place.ensures.above;
    },
  ),
)

pub returns-clause-found : goal.returns-clause-found
returns-clause-found g c = λ seen best.
    let at = c.args.at.now.c in
    let live = c.args.live.now in
    let xs = c.args.view.now in
    let place = c.count_below-place.result in
    let new = c.offer_below.new.found in
    let first = c.in_ok-offer_above.ensures.found seen best in
    on_ok (AreAdded first.after (nears_of at (live_items live (take place xs))) new) (AreAdded seen (nears_of at (live_items live xs)) new) c.offer_below.result
    (λ rest. added_both seen _ _ _ c.offer_above.new.found new first rest (λ f. sum_halves at live f xs place))
    (c.offer_below.ensures.found first.after first.best)
