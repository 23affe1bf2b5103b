-- There is a snapshot of the name.
use Rattle.std.proofs.Common.{◌∙◌, sym, ap}
use Rattle.std.proofs.lemmas.Bool.{both_ways}
use Rattle.std.proofs.lemmas.List.{drop_all}
use Rattle.segment_set.specs.Sets.{view_of}
use Rattle.segment_set.proofs.Viewed.{none_named}
use Rattle.segment_set.proofs.snapshots.snapshot_named.Goals as goal

pub unreachable-requires : goal.unreachable-requires
unreachable-requires g c =
    both_ways _
    (none_named c.args.name.now c.args.snapshots.now
    (sym c.loop-snapshot.invariant ∙ ap (view_of c.args.name.now) (drop_all c.loop-snapshot.snapshot-index c.args.snapshots.now c.loop-snapshot-test.false)))
    c.requires
