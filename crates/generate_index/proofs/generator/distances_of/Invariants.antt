use Rattle.std.proofs.Common.{◌≡◌, ◌<◌, ◌^◌, take}
use Rattle.std.specs.List.{sum_by}
use Rattle.point_codec.specs.declared.entries.Near.{Near}
use Rattle.generate_index.proofs.generator.distances_of.Given as goal

-- the distances so far, where all of them are small
abbrev pub invariant-loop-near : goal.invariant-loop-near
invariant-loop-near l = sum_by (λ (n : Near). n.dist2) l.found < 2 ^ 128 → l.sum ≡ sum_by (λ (n : Near). n.dist2) (take l.near-index l.found)
