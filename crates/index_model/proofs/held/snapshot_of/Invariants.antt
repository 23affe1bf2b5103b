use Rattle.std.proofs.Common.{◌≡◌, drop}
use Rattle.index_model.specs.State.{snapshot_of}
use Rattle.index_model.proofs.held.snapshot_of.Given as goal

abbrev pub invariant-loop-snapshot : goal.invariant-loop-snapshot
invariant-loop-snapshot g l = snapshot_of l.name (drop l.snapshot-index l.snapshots) ≡ snapshot_of l.name l.snapshots
