use Rattle.std.proofs.Common.{arith, ℕ, ◌-◌, ◌/◌, ◌<◌, ◌≤◌, length, drop, ℤ}
use Rattle.std.proofs.lemmas.List.Elements.{All-take, All-drop}
use Rattle.inner_pack.specs.declared.place.LeafPlace.{LeafPlace}
use Rattle.inner_pack.proofs.PackParts.{left_counts}
use Rattle.inner_pack.proofs.pack.Subtree.children.Goals as goal

pub invariant_of-result : goal.invariant_of-result
invariant_of-result g c =
    let below = λ (v : ℕ × ℤ). v.0 < g.row.D in
    let in_page = λ (p : LeafPlace). p.length ≤ 4064 in
    let whole = c.args.self.now in
    let n = length whole.places.now in
    let counts = left_counts (n - n / 2) whole.nodes.now whole.places.now whole.cells.now whole.many_nodes whole.many_cells (omega arith) (omega arith) in
    record {
      dims = whole.dims;
      dimensions = All-take below (n - n / 2 - 1) (drop 1 whole.nodes.now) (All-drop below 1 whole.nodes.now whole.dimensions);
      lengths = All-take in_page (n - n / 2) whole.places.now whole.lengths;
      many_nodes = counts.0;
      many_cells = counts.1;
    }
