-- The points are what the line adds, if each is a range.
use Rattle.std.proofs.Common.{◌/◌}
use Rattle.range_docs.proofs.AddRead.{no_ranges, ranges_added}
use Rattle.range_docs.proofs.changes.add.Goals as goal

pub returns-then-not-are_ranges : goal.returns-then-not-are_ranges
returns-then-not-are_ranges g c =
    no_ranges g.row.D (g.row.D / 2) _ _ _ _ _ _ c.requires.second c.in_ok-points_at.ensures.points c.of-points.ensures c.as_slice.ensures.value
    c.are_ranges.ensures c.if-not-are_ranges.true

pub returns : goal.returns
returns g c =
    ranges_added g.row.D (g.row.D / 2) _ _ _ _ _ _ c.requires.second c.in_ok-points_at.ensures.points c.of-points.ensures c.as_slice.ensures.value
    c.are_ranges.ensures c.if-not-are_ranges.false
