use Rattle.std.proofs.Common.{rules, ◌-◌, ℕ, List, get_or, set, refl, ap, arith, pos, to_z, of_z, w32}
use Rattle.inner_pack.proofs.PackParts.{nowhere, leaf_written, node_written}
use Rattle.inner_pack.proofs.pack.+put_node.Goals as goal

pub returns-then-part-lt2-clause-spelled : goal.returns-then-part-lt2-clause-spelled
returns-then-part-lt2-clause-spelled g t c = λ s tree part.
    let here = c.args.part in
    leaf_written g.row.D s here.nodes.now here.places.now here.cells.now c.args.references (get_or here.places.now 0 nowhere) nowhere
    (get_or here.cells.now 0 c.index-part-0.result) c.index-part-0.result
    c.args.out.now.items c.put_leaf.new.out.items tree (omega arith) refl refl c.in_ok-put_leaf.ensures.spelled part

pub returns-clause-spelled : goal.returns-clause-spelled
returns-clause-spelled g t c = λ s tree part.
    let here = c.args.part in
    let left = c.children.result.0 in
    let right = c.children.result.1 in
    let v = get_or here.nodes.now 0 (0, pos 0) in
    node_written {D = g.row.D} s here left right (get_or here.places.now 0 nowhere) (get_or right.places.now 0 nowhere) nowhere v (to_z w32 (of_z w32 v.1))
    c.saturating_sub.result
    (c.len.result - c.len-before.result) c.args.references (set c.args.references v.0 c.sortable.result) c.args.out.now.items c.put_node.new.out.items
    c.put_node-2.new.out.items
    c.put_head.new.out.items tree (omega arith) c.children.ensures.are refl refl refl (search rules) (search rules) (search rules)
    (ap (λ (w : List ℕ). set c.args.references v.0 w) (search rules))
    c.in_ok-put_node.ensures.spelled c.in_ok-put_node-2.ensures.spelled c.in_ok-put_head.ensures.spelled part
