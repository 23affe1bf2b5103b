use Rattle.point_codec.specs.Seen.{items_of}
use Rattle.bkd_build.specs.Canon.{IsCanonSplit}
use Rattle.bkd_build.specs.Pieces.{held_pieces}
use Rattle.bkd_build.proofs.Nodes.{items_joined, halves_moved, halves_add}
use Rattle.bkd_build.proofs.tree.+parts.Goals as goal

pub build_part-returns-in_err-first-clause-same : goal.build_part-returns-in_err-first-clause-same
build_part-returns-in_err-first-clause-same g t c =
    halves_moved c.args.entries.now c.halve-node.new.entries c.split_at_mut-left.result.0.now c.split_at_mut-left.result.1.now c.both-first.new.left
    c.both-first.new.right
    c.halve-node.ensures.same c.split_at_mut-left.ensures.value c.both-first.ensures.left_same c.both-first.ensures.right_same

pub build_part-returns-in_err-second-clause-same : goal.build_part-returns-in_err-second-clause-same
build_part-returns-in_err-second-clause-same g t c =
    halves_moved c.args.entries.now c.halve-node.new.entries c.split_at_mut-left.result.0.now c.split_at_mut-left.result.1.now c.both-first.new.left
    c.both-first.new.right
    c.halve-node.ensures.same c.split_at_mut-left.ensures.value c.both-first.ensures.left_same c.both-first.ensures.right_same

pub build_part-returns-in_err-part-clause-same : goal.build_part-returns-in_err-part-clause-same
build_part-returns-in_err-part-clause-same g t c =
    halves_moved c.args.entries.now c.halve-node.new.entries c.split_at_mut-left.result.0.now c.split_at_mut-left.result.1.now c.both-first.new.left
    c.both-first.new.right
    c.halve-node.ensures.same c.split_at_mut-left.ensures.value c.both-first.ensures.left_same c.both-first.ensures.right_same

pub build_part-returns-clause-same : goal.build_part-returns-clause-same
build_part-returns-clause-same g t c =
    halves_moved c.args.entries.now c.halve-node.new.entries c.split_at_mut-left.result.0.now c.split_at_mut-left.result.1.now c.both-first.new.left
    c.both-first.new.right
    c.halve-node.ensures.same c.split_at_mut-left.ensures.value c.both-first.ensures.left_same c.both-first.ensures.right_same

pub build_part-returns-clause-built : goal.build_part-returns-clause-built
build_part-returns-clause-built g t c =
    let ls = c.split_at_mut-left.result.0.now in
    let rs = c.split_at_mut-left.result.1.now in
    let node = c.halve-node.result in
    let split : IsCanonSplit g.row.D c.args.leaf_size node.dimension node.at (items_of ls) (items_of rs) =
    rw (c.split_at_mut-left.ensures.front, c.split_at_mut-left.ensures.back) c.halve-node.ensures.split in
    halves_add g.row.D c.args.leaf_size node.dimension node.at (items_of c.args.entries.now) (items_of ls) (items_of rs) (held_pieces c.in_ok-first.first)
    (held_pieces c.in_ok-second.second) (held_pieces c.in_ok-part.part)
    (items_joined c.args.entries.now c.halve-node.new.entries ls rs c.halve-node.ensures.same c.split_at_mut-left.ensures.value)
    split
    (rw c.in_ok-first.was at c.both-first.ensures.left_built)
    (rw c.in_ok-second.was at c.both-first.ensures.right_built)
    c.in_ok-part.ensures
