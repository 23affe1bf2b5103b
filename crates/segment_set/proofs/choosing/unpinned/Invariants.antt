use Rattle.std.proofs.Common.{◌≡◌, map, not, take}
use Rattle.std.specs.List.{filter}
use Rattle.documents.specs.Entries.{is_among}
use Rattle.segment_file.specs.Heads.{Head}
use Rattle.segment_set.proofs.choosing.unpinned.Given as goal

abbrev pub invariant-loop-head : goal.invariant-loop-head
invariant-loop-head g l = l.ids.items ≡ filter (λ id. not (is_among l.inputs id)) (map (λ (h : Head). h.id) (take l.head-index l.head-items))
