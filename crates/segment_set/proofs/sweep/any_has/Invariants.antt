use Rattle.std.proofs.Common.{◌≡◌, drop}
use Rattle.std.specs.List.{list_any}
use Rattle.documents.specs.Entries.{is_among}
use Rattle.segment_view.specs.LiveSegments.{ids_of}
use Rattle.segment_set.specs.Sets.{NamedView}
use Rattle.segment_set.proofs.sweep.any_has.Given as goal

abbrev pub invariant-loop-snapshot : goal.invariant-loop-snapshot
invariant-loop-snapshot g l =
    list_any (λ (v : NamedView). is_among (ids_of v.parts) l.id) (drop l.snapshot-index l.snapshots)
    ≡ list_any (λ (v : NamedView). is_among (ids_of v.parts) l.id) l.snapshots
