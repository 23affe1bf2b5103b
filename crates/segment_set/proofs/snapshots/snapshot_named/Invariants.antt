use Rattle.std.proofs.Common.{◌≡◌, drop}
use Rattle.segment_set.specs.Sets.{view_of}
use Rattle.segment_set.proofs.snapshots.snapshot_named.Given as goal

abbrev pub invariant-loop-snapshot : goal.invariant-loop-snapshot
invariant-loop-snapshot g l = view_of l.name (drop l.snapshot-index l.snapshots) ≡ view_of l.name l.snapshots
