use Rattle.std.proofs.Common.{◌≡◌, drop}
use Rattle.segment_set.specs.Sets.{has_name}
use Rattle.segment_set.proofs.snapshots.has_name.Given as goal

abbrev pub invariant-loop-snapshot : goal.invariant-loop-snapshot
invariant-loop-snapshot g l = has_name l.name (drop l.snapshot-index l.snapshots) ≡ has_name l.name l.snapshots
