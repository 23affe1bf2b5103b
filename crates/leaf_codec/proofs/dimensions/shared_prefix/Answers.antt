use Rattle.std.proofs.Common.{◌<◌, sym, ◌∙◌, length, eqb-true, pos_of_ne-zero}
use Rattle.std.proofs.lemmas.Bool.{eqb-false}
use Rattle.std.proofs.lemmas.List.{nil_from_length}
use Rattle.point_codec.specs.Seen.{items_of}
use Rattle.leaf_codec.specs.LeafOrder.{item_of}
use Rattle.leaf_codec.proofs.Items.{items_more, items_all, Contains-items}
use Rattle.leaf_codec.proofs.Shared.{shares_none, shares_more, shares_all, shared_none}
use Rattle.leaf_codec.proofs.dimensions.shared_prefix.Goals as goal

pub returns : goal.returns
returns g c =
    let so_far = rw (items_all c.args.entries.now c.loop-entry.entry-index c.loop-entry-test.false) at c.loop-entry.invariant in
    let some : 0 < length c.args.entries.now = pos_of_ne-zero (eqb-false _ _ (sym c.is_empty.ensures ∙ c.if-is_empty.false)) in
    let member = Contains-items c.args.entries.now 0 c.index-entries-0.result some c.index-entries-0.is in
    sym (shares_all c.args.d (items_of c.args.entries.now) c.key-first.result c.loop-entry.shared (item_of c.index-entries-0.result) so_far member
    c.key-first.ensures.value)

pub loop-entry-preserved : goal.loop-entry-preserved
loop-entry-preserved g c =
    let h = rw c.key.ensures.value at c.common.ensures in
    rw (items_more c.args.entries.now c.loop-entry.entry-index c.entry-item.result c.loop-entry-test.true c.entry-item.is)
    (rw c.min-shared.ensures
    (shares_more c.args.d _ c.key-first.result c.loop-entry.shared c.common.result (item_of c.entry-item.result) c.loop-entry.invariant
    (record { short = h.short; same = h.same; differ = h.differ })))

pub returns-then-is_empty : goal.returns-then-is_empty
returns-then-is_empty g c =
    let none = nil_from_length c.args.entries.now (eqb-true _ _ (sym c.is_empty.ensures ∙ c.if-is_empty.true)) in
    rw none (sym (shared_none c.args.d))

pub loop-entry-init : goal.loop-entry-init
loop-entry-init g c = shares_none c.args.d c.key-first.result
