use Rattle.std.proofs.Common.{◌≡◌, length, map, take}
use Rattle.std.specs.List.{All}
use Rattle.live_bits.specs.LiveSet.{IsLiveSet, LiveSet}
use Rattle.commit_list.specs.declared.listed.Listed.{Listed}
use Rattle.segment_file.specs.Heads.{Head}
use Rattle.segment_set.proofs.set.are_listed.Given as goal

abbrev pub invariant-loop-i : goal.invariant-loop-i
invariant-loop-i g l = record {
  ids : map (λ (h : Head). h.id) (take l.i l.heads) ≡ map (λ (s : Listed). s.segment) (take l.i l.listed);
  counts : map (λ (s : LiveSet). length s.live) (take l.i l.lives) ≡ map (λ (s : Listed). s.live) (take l.i l.listed);
  sets : All IsLiveSet (take l.i l.lives);
}
