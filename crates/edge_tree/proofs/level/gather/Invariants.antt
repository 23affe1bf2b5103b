use Rattle.std.proofs.Common.{◌≡◌, ◌≤◌, ◌+◌, ◌-◌, ◌++◌, take, drop, vec_capacity, vec_len}
use Rattle.point_codec.specs.Seen.{region_of}
use Rattle.edge_tree.specs.Levels.{meeting}
use Rattle.edge_tree.proofs.level.gather.Given as goal

-- those of the edges so far that meet the cell stand behind what the list held
abbrev pub invariant-loop-i : goal.invariant-loop-i
invariant-loop-i l = record {
  all : l.listed.items ≡ l.initial.listed.items ++ meeting (region_of l.c) (take (l.i - l.first) (drop l.first l.initial.listed.items));
  longer : vec_len l.initial.listed ≤ vec_len l.listed;
  few : vec_len l.listed + l.first ≤ vec_len l.initial.listed + l.i;
  room : vec_capacity l.listed ≡ vec_capacity l.initial.listed;
}
