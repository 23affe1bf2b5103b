use Rattle.std.proofs.Common.{sym, ◌∙◌}
use Rattle.leaf_codec.proofs.Permuted.{leads}
use Rattle.leaf_codec.proofs.order.leading_dimension.Goals as goal

pub returns-then-sorted-clause-value : goal.returns-then-sorted-clause-value
returns-then-sorted-clause-value g c items is =
    let l = leads g.row.D items in
    is ∙ sym (l.0 (rw is at c.if-sorted.true))

pub returns-else-sorted-clause-value : goal.returns-else-sorted-clause-value
returns-else-sorted-clause-value g c items is =
    let l = leads g.row.D items in
    sym (l.1 (rw is at c.if-sorted.false))
