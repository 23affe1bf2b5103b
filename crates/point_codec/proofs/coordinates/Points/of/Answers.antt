-- Sorted and without repetitions, the list is what its points are in order.
use Rattle.std.proofs.Common.{map, ap, ◌∙◌}
use Rattle.std.proofs.lemmas.List.Filters.{dedup_is}
use Rattle.std.specs.Ordering.{int_cmp}
use Rattle.std.specs.Cmp.Lexicographic.{slice_cmp}
use Rattle.point_codec.proofs.Ordered.{sorted_and_dedup, still_few, points_total, points_exact, points_tie}
use Rattle.point_codec.proofs.coordinates.Points.of.Goals as goal

pub invariant_of-result : goal.invariant_of-result
invariant_of-result g c =
    let left = dedup_is _ _ _ c.dedup.ensures.filtered in
    let counted = still_few (λ p. p.c) _ _ _ c.sort_unstable.ensures.permutation c.requires.some c.requires.few in
    rw left (record {
      some = counted.0;
      few = counted.1;
      ascending = (sorted_and_dedup (λ p. p.c) (slice_cmp int_cmp) points_total points_exact _ (λ p q. points_tie p.c q.c)
          _ _ c.sort_unstable.ensures.permutation c.sort_unstable.ensures.sorted).0;
    })

pub returns : goal.returns
returns g c =
    ap (map (λ p. p.c)) (dedup_is _ _ _ c.dedup.ensures.filtered)
    ∙ (sorted_and_dedup (λ p. p.c) (slice_cmp int_cmp) points_total points_exact _ (λ p q. points_tie p.c q.c) _ _ c.sort_unstable.ensures.permutation
    c.sort_unstable.ensures.sorted).1
