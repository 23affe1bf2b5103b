use Rattle.std.proofs.Common.{◌≡◌, ◌++◌, ℕ, ◌/◌, ◌-◌, List, length, map, take, drop, sym, ap, ◌∙◌, subst, rules}
use Rattle.std.proofs.lemmas.List.{take_rest, take-append-drop}
use Rattle.ring_parity.specs.Seen.{ends_of}
use Rattle.edge_tree.specs.declared.runs.Run.{Run}
use Rattle.edge_tree.specs.declared.nodes.Node.{Node}
use Rattle.edge_tree.specs.Nodes.{all_in, all_held_edges, AreNodes}
use Rattle.edge_tree.proofs.Sound.{IsLastNode, leaf_stands, halves_stand, held_pushed, kept_pushed, sound_pushed}
use Rattle.edge_tree.proofs.nodes.+push_nodes.Goals.{then-runs-eq1, else-runs-eq1+in_ok-left+in_ok-right}
use Rattle.edge_tree.proofs.nodes.+push_nodes.Goals as goal

stands : (t : ℕ) (c : goal.After-result-1 t)
    → IsLastNode (map ends_of c.args.edges.now) c.args.nodes.now.items c.if-runs-eq1.nodes.items (all_in (map ends_of c.args.edges.now) c.args.runs.now)
    c.if-runs-eq1.node
stands t c =
    let begins : c.len-before.result ≡ length c.args.nodes.now.items = search rules in
    let middle : ℕ = length c.args.runs.now / 2 in
    elim c.if-runs-eq1.branch [
      | then-runs-eq1 w ↦ rw (w.nodes-is, w.node-is)
          (leaf_stands (map ends_of c.args.edges.now) c.args.nodes.now.items (all_in (map ends_of c.args.edges.now) c.args.runs.now) w.leaf-node.result
          c.requires.sound w.leaf-node.ensures.held (w.leaf-node.ensures.before ∙ begins))
      | else-runs-eq1+in_ok-left+in_ok-right w ↦ rw (w.nodes-is, w.node-is)
          (halves_stand (map ends_of c.args.edges.now) c.args.nodes.now.items w.push_nodes.new.nodes.items w.push_nodes-else-runs-eq1.new.nodes.items
          (take middle c.args.runs.now) (take (length c.args.runs.now - middle) (drop middle c.args.runs.now)) c.args.runs.now
          w.in_ok-left.left w.in_ok-right.right w.join.result c.len-before.result
          (ap (λ (rest : List Run). take middle c.args.runs.now ++ rest) (take_rest c.args.runs.now middle) ∙ take-append-drop middle c.args.runs.now)
          w.in_ok-left.ensures.kept w.in_ok-right.ensures.kept w.in_ok-right.ensures.sound w.in_ok-left.ensures.held w.in_ok-right.ensures.held
          w.in_ok-left.ensures.outlined w.in_ok-right.ensures.outlined w.join.ensures begins)
    ]

pub returns-clause-outlined : goal.returns-clause-outlined
returns-clause-outlined t c = (stands t c).outlined

pub returns-clause-sound : goal.returns-clause-sound
returns-clause-sound t c =
    subst (λ (nodes : List Node). AreNodes (map ends_of c.args.edges.now) nodes) (sym c.in_ok-push.ensures.items)
    (sound_pushed (map ends_of c.args.edges.now) c.args.nodes.now.items c.if-runs-eq1.nodes.items (all_in (map ends_of c.args.edges.now) c.args.runs.now)
    c.if-runs-eq1.node (stands t c))

pub returns-clause-held : goal.returns-clause-held
returns-clause-held t c =
    ap (λ (nodes : List Node). all_held_edges (map ends_of c.args.edges.now) (drop (length c.args.nodes.now.items) nodes)) c.in_ok-push.ensures.items
    ∙ held_pushed (map ends_of c.args.edges.now) c.args.nodes.now.items c.if-runs-eq1.nodes.items (all_in (map ends_of c.args.edges.now) c.args.runs.now)
    c.if-runs-eq1.node (stands t c)

pub returns-clause-kept : goal.returns-clause-kept
returns-clause-kept t c =
    ap (take (length c.args.nodes.now.items)) c.in_ok-push.ensures.items
    ∙ kept_pushed (map ends_of c.args.edges.now) c.args.nodes.now.items c.if-runs-eq1.nodes.items (all_in (map ends_of c.args.edges.now) c.args.runs.now)
    c.if-runs-eq1.node (stands t c)
