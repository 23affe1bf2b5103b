use Rattle.std.proofs.Common.{◌≡◌, ◌≤◌, ◌*◌, ◌-◌, length, map, vec_capacity}
use Rattle.std.specs.List.{range_with_len}
use Rattle.segment_set.specs.AtOnce.{points_in}
use Rattle.drawn_points.specs.Draws.{draw, points}
use Rattle.generate_index.proofs.drawing.drawn_entries.Given as goal

-- as many were drawn as the loop has gone round
abbrev pub invariant-adds : goal.invariant-adds
invariant-adds l = record {
  points : points_in l.entries.items ≡ points l.initial.draws 0 l.doc;
  numbers : map (λ e. e.doc) l.entries.items ≡ map (λ i. i) (range_with_len 0 l.doc);
  counted : length l.entries.items ≡ l.doc;
  drawn : l.draws ≡ draw l.initial.draws (2 * l.doc);
  within : l.doc ≤ l.docs;
  room : l.docs ≤ vec_capacity l.entries;
}

abbrev pub decreases-adds : goal.decreases-adds
decreases-adds l = l.docs - l.doc
