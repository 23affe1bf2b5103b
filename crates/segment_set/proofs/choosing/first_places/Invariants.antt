use Rattle.std.proofs.Common.{◌≡◌, take}
use Rattle.std.specs.Prelude.{nat_lt}
use Rattle.std.specs.List.{filter}
use Rattle.segment_set.specs.Merged.{each_once}
use Rattle.segment_set.proofs.choosing.first_places.Given as goal

abbrev pub invariant-loop-position : goal.invariant-loop-position
invariant-loop-position l = l.places.items ≡ take 64 (filter (λ i. nat_lt i l.count) (each_once (take l.position-index l.positions)))
