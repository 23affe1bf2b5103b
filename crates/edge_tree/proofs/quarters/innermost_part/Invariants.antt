use Rattle.std.proofs.Common.{◌-◌, ◌≡◌, ◌<◌, ◌≤◌, true, length}
use Rattle.std.specs.Prelude.{slice_index_or}
use Rattle.point_codec.specs.Points.{in_box}
use Rattle.point_codec.specs.Seen.{region_of}
use Rattle.edge_tree.specs.declared.level.Level.{Level}
use Rattle.edge_tree.proofs.quarters.innermost_part.Given as goal

abbrev pub invariant-loop-number : goal.invariant-loop-number
invariant-loop-number l = record {
  number : l.number < 21;
  some : 0 < l.held;
  there : l.held ≤ length l.levels;
  has : (d : Level) → in_box (region_of (slice_index_or l.levels (l.held - 1) d).cell) l.p.c ≡ true;
}

abbrev pub decreases-loop-number : goal.decreases-loop-number
decreases-loop-number l = 5 - l.number
