use Rattle.std.proofs.Common.{◌≡◌, drop, map}
use Rattle.documents.specs.Entries.{is_among}
use Rattle.segment_view.proofs.pairs.has_id.Given as goal

abbrev pub invariant-loop-head : goal.invariant-loop-head
invariant-loop-head g l = is_among (map (λ h. h.id) (drop l.head-index l.heads)) l.id ≡ is_among (map (λ h. h.id) l.heads) l.id
