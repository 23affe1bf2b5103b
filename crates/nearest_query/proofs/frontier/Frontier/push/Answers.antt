use Rattle.std.proofs.Common.{◌≡◌, ◌++◌, length, ap, sym, ◌∙◌, arith}
use Rattle.point_codec.specs.Points.{dist2}
use Rattle.point_codec.specs.Cells.{nearest_in}
use Rattle.nearest_query.proofs.WaitingNodes.{same_waiting, waiting_sum}
use Rattle.nearest_query.proofs.frontier.Frontier.push.Goals as goal

pub returns-clause-put : goal.returns-clause-put
returns-clause-put g c =
    let place : c.len.result ≡ length c.self.inside.nodes.items = c.len.ensures ∙ c.self.inside.nodes.ok.0 in
    rw (← c.self.view_is) (record {
      dist = c.least_dist2.result;
      grown = c.in_ok-extend_from_slice.ensures.items ∙ ap (λ xs. c.self.inside.nodes.items ++ xs) c.from_ref.ensures.value;
      moved =
          same_waiting _ _ c.least_dist2.result c.args.segment _ _ _ _ _ _ c.first_leaf.ensures.field c.leaf_count.ensures.field place c.in_ok-push.ensures.put;
      is = λ first s path t at. (
        c.least_dist2.ensures.value ∙ ap (λ r. dist2 c.args.at.now.c (nearest_in r c.args.at.now.c)) (c.cell.ensures first s path t at),
        sym c.first_leaf.ensures.field ∙ c.first_leaf.ensures.number first s path t at,
        sym c.leaf_count.ensures.field ∙ c.leaf_count.ensures.count first s path t at,
      );
    })

pub returns-clause-most : goal.returns-clause-most
returns-clause-most g c = λ h.
    let s = waiting_sum c.args.at.now.c c.args.segment c.args.node.now c.args.self.now _ (returns-clause-put g c) h in
    omega (arith, s)
