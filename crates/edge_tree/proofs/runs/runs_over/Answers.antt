use Rattle.std.proofs.Common.{List, map, subst}
use Rattle.ring_parity.specs.Edges.{EdgeEnds}
use Rattle.ring_parity.specs.Seen.{ends_of}
use Rattle.edge_tree.specs.Nodes.{all_in, HaveSame}
use Rattle.edge_tree.proofs.Same.{same_sorted}
use Rattle.edge_tree.proofs.runs.runs_over.Goals as goal

pub returns-clause-whole : goal.returns-clause-whole
returns-clause-whole c =
    subst (λ (es : List EdgeEnds). HaveSame (all_in (map ends_of c.args.edges.now) c.sort_unstable_by_key.new.self.items) es) c.in_ok-runs.ensures.whole
    (same_sorted (map ends_of c.args.edges.now) c.in_ok-runs.runs.items c.sort_unstable_by_key.new.self.items c.sort_unstable_by_key.ensures.permutation)
