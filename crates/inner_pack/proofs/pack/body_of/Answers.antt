use Rattle.std.proofs.Common.{rules, ◌∙◌, ℕ, List, ◌++◌, reverse, ap}
use Rattle.point_codec.specs.Seen.{region_of}
use Rattle.inner_pack.specs.Places.{front}
use Rattle.inner_pack.specs.Bodies.{node_bytes}
use Rattle.inner_pack.proofs.PackWhole.{body_turned}
use Rattle.inner_pack.proofs.pack.body_of.Goals as goal

pub returns : goal.returns
returns g c = λ t part.
    let out = c.in_ok-out.out.items in
    body_turned (region_of c.args.root.now) t out c.put_node.new.out.items c.put_cell.new.out.items c.reverse_from.new.out.items c.reverse_from-2.new.out.items
    c.len-from.result
    c.in_ok-out.ensures.items
    (c.in_ok-put_node.ensures.spelled front t part ∙ ap (λ (w : List (List ℕ)). out ++ reverse (node_bytes 3 w front t)) c.keys_of.ensures)
    (search rules) c.in_ok-put_cell.ensures.spelled c.reverse_from.ensures c.reverse_from-2.ensures
