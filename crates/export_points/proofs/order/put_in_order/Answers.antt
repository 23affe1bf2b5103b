use Rattle.std.proofs.Common.{rules, is_lt}
use Rattle.std.proofs.lemmas.Fn.{always_returns_same}
use Rattle.std.proofs.lemmas.List.Sorted.{ranks_by, IsPermutation-map}
use Rattle.point_codec.specs.Points.{Item}
use Rattle.point_codec.specs.declared.entries.Entry.{Entry}
use Rattle.leaf_codec.specs.LeafOrder.{item_of}
use Rattle.leaf_codec.proofs.OrderLemmas.{sorted-map}
use Rattle.documents.proofs.Totals.{item_total}
use Rattle.document_checks.specs.Crowded.{by_number}
use Rattle.export_points.proofs.order.put_in_order.Goals as goal

pub returns-clause-sorted : goal.returns-clause-sorted
returns-clause-sorted g c =
    let f = λ (e : Entry g.row.D). item_of e in
    sorted-map (λ (x y : Item). is_lt (by_number x y)) f c.sort_unstable_by.new.self.items
    (c.sort_unstable_by.ensures.sorted (λ (a b : Entry g.row.D). is_lt (by_number (f a) (f b))) (ranks_by item_total f)
    (always_returns_same _ _ _ (λ a r h k. search rules)))

pub returns-clause-moved : goal.returns-clause-moved
returns-clause-moved g c =
    IsPermutation-map (λ (e : Entry g.row.D). item_of e) c.args.entries.now.items c.sort_unstable_by.new.self.items c.sort_unstable_by.ensures.permutation
