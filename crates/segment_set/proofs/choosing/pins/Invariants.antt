use Rattle.std.proofs.Common.{◌≡◌, map, take}
use Rattle.documents.specs.Entries.{is_among}
use Rattle.segment_file.specs.Heads.{Head}
use Rattle.segment_set.proofs.choosing.pins.Given as goal

abbrev pub invariant-loop-head : goal.invariant-loop-head
invariant-loop-head g l = l.pins.items ≡ map (λ (h : Head). is_among l.inputs h.id) (take l.head-index l.head-items)
