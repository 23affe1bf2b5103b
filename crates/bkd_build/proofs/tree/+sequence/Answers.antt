use Rattle.std.proofs.Common.{subst}
use Rattle.point_codec.specs.Seen.{items_of}
use Rattle.bkd_build.specs.Canon.{IsCanonSplit}
use Rattle.bkd_build.specs.Pieces.{AddsPieces, held_pieces, Pieces}
use Rattle.bkd_build.proofs.Nodes.{items_joined, halves_moved, node_adds}
use Rattle.bkd_build.proofs.tree.+sequence.Goals as goal

pub grow-returns-in_err-grow_halves-clause-same : goal.grow-returns-in_err-grow_halves-clause-same
grow-returns-in_err-grow_halves-clause-same g t c =
    halves_moved c.args.entries.now c.halve-node.new.entries c.split_at_mut-left.result.0.now c.split_at_mut-left.result.1.now c.grow_halves.new.left
    c.grow_halves.new.right
    c.halve-node.ensures.same c.split_at_mut-left.ensures.value c.grow_halves.ensures.left_same c.grow_halves.ensures.right_same

pub grow-returns-clause-same : goal.grow-returns-clause-same
grow-returns-clause-same g t c =
    halves_moved c.args.entries.now c.halve-node.new.entries c.split_at_mut-left.result.0.now c.split_at_mut-left.result.1.now c.grow_halves.new.left
    c.grow_halves.new.right
    c.halve-node.ensures.same c.split_at_mut-left.ensures.value c.grow_halves.ensures.left_same c.grow_halves.ensures.right_same

pub grow-returns-clause-added : goal.grow-returns-clause-added
grow-returns-clause-added g t c =
    let ls = c.split_at_mut-left.result.0.now in
    let rs = c.split_at_mut-left.result.1.now in
    let node = c.halve-node.result in
    let both = c.in_ok-grow_halves.ensures.added in
    let split : IsCanonSplit g.row.D c.args.leaf_size node.dimension node.at (items_of ls) (items_of rs) =
    rw (c.split_at_mut-left.ensures.front, c.split_at_mut-left.ensures.back) c.halve-node.ensures.split in
    node_adds g.row.D c.args.leaf_size node.dimension node.at (items_of c.args.entries.now) (items_of ls) (items_of rs) (held_pieces c.args.part.now)
    both.middle
    (held_pieces c.grow_halves.new.part)
    (items_joined c.args.entries.now c.halve-node.new.entries ls rs c.halve-node.ensures.same c.split_at_mut-left.ensures.value)
    split
    (subst (λ (ps : Pieces). AddsPieces g.row.D c.args.leaf_size (items_of ls) ps both.middle) c.in_ok-push_node.ensures both.left)
    both.right
