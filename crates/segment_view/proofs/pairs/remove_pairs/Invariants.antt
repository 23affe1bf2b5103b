use Rattle.std.proofs.Common.{◌≡◌, ◌++◌, length, take, drop}
use Rattle.segment_view.specs.LiveSegments.{parts_of, parts_but}
use Rattle.segment_view.proofs.pairs.remove_pairs.Given as goal

abbrev pub invariant-loop-i : goal.invariant-loop-i
invariant-loop-i g l = record {
  same : length l.lives.items ≡ length l.heads.items;
  parts : parts_of l.heads.items l.lives.items
      ≡ take l.i (parts_of l.initial.heads.items l.initial.lives.items) ++ parts_but l.ids (drop l.i (parts_of l.initial.heads.items l.initial.lives.items));
}
