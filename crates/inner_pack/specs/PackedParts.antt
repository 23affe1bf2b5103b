-- What the contracts of packing say of the parts of a node.
use Rattle.std.specs.Prelude.{ℕ, ◌-◌, ◌/◌, ◌≡◌, length, take, drop}
use Rattle.inner_pack.specs.declared.pack.Subtree.{Subtree}

-- of n leaves, the first n - n / 2 are left; behind the node itself come the inner nodes of the left child, one fewer
-- than its leaves
pub record AreChildParts {D : ℕ} (whole left right : Subtree D) : Type 0 where
  pub half : length left.places.now ≡ length whole.places.now - length whole.places.now / 2
  pub left_nodes : left.nodes.now ≡ take (length left.places.now - 1) (drop 1 whole.nodes.now)
  pub left_places : left.places.now ≡ take (length left.places.now) whole.places.now
  pub left_cells : left.cells.now ≡ take (length left.places.now) whole.cells.now
  pub right_nodes : right.nodes.now ≡ drop (length left.places.now) whole.nodes.now
  pub right_places : right.places.now ≡ drop (length left.places.now) whole.places.now
  pub right_cells : right.cells.now ≡ drop (length left.places.now) whole.cells.now
