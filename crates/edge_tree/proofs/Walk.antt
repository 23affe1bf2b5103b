-- The steps of a walk over the nodes from the last to the first.
use Rattle.std.proofs.Common.{◌≡◌, ℕ, ◌+◌, ◌-◌, ◌<◌, ◌≤◌, suc, true, false, not, List, ◌++◌, length, take, drop, get_or, sym, ap, ◌∙◌, subst, arith}
use Rattle.std.proofs.lemmas.Bool.{or_from, or_left, or_right}
use Rattle.std.proofs.lemmas.List.{take-append-drop, drop-append-le, drop_more, length-take-le}
use Rattle.std.proofs.lemmas.List.Concat.{flat_map-append}
use Rattle.std.proofs.lemmas.List.Folds.{list_any-append}
use Rattle.point_codec.specs.Points.{Region}
use Rattle.ring_parity.specs.Edges.{EdgeEnds, misses}
use Rattle.ring_parity.specs.Rings.{any_meets}
use Rattle.edge_tree.specs.declared.nodes.Node.{Node}
use Rattle.edge_tree.specs.Outlines.{Outlines}
use Rattle.edge_tree.specs.Nodes.{held_edges, all_held_edges, IsEdgeNode, AreNodes}

-- what the subtree holds that ends with a node
abbrev pub below : List EdgeEnds → List Node → ℕ → Node → List EdgeEnds
below edges nodes at n = all_held_edges edges (drop n.before (take at nodes))

pub node_at : (edges : List EdgeEnds) (nodes : List Node) (at : ℕ) (n : Node) → AreNodes edges nodes → 0 < at → at ≤ length nodes → n ≡ get_or nodes (at - 1) n
    → IsEdgeNode edges nodes (at - 1) n
node_at edges nodes at n all some there is = subst (λ (m : Node). IsEdgeNode edges nodes (at - 1) m) (sym is) (all (at - 1) n (omega arith))

pub outlined_at : (edges : List EdgeEnds) (nodes : List Node) (at : ℕ) (n : Node) → AreNodes edges nodes → 0 < at → at ≤ length nodes
    → n ≡ get_or nodes (at - 1) n
    → Outlines (below edges nodes at n) n.outline
outlined_at edges nodes at n all some there is =
    let last : suc (at - 1) ≡ at = omega arith in
    subst (λ (k : ℕ). Outlines (below edges nodes k n) n.outline) last (node_at edges nodes at n all some there is).outlined

-- a node that is taken whole: what its subtree holds comes before what was passed already
pub taken : (edges : List EdgeEnds) (nodes : List Node) (at : ℕ) (n : Node) → AreNodes edges nodes → 0 < at → at ≤ length nodes → n ≡ get_or nodes (at - 1) n
    → all_held_edges edges (drop n.before nodes) ≡ below edges nodes at n ++ all_held_edges edges (drop at nodes)
taken edges nodes at n all some there is =
    let h : IsEdgeNode edges nodes (at - 1) n = node_at edges nodes at n all some there is in
    ap (λ (ns : List Node). all_held_edges edges (drop n.before ns)) (sym (take-append-drop at nodes))
    ∙ ap (all_held_edges edges) (drop-append-le n.before (take at nodes) (drop at nodes) (omega (arith, h.after, length-take-le at nodes there)))
    ∙ flat_map-append (held_edges edges) (drop n.before (take at nodes)) (drop at nodes)

-- a node that is entered: what it holds itself does
pub entered : (edges : List EdgeEnds) (nodes : List Node) (at : ℕ) (n : Node) → 0 < at → at ≤ length nodes → n ≡ get_or nodes (at - 1) n
    → all_held_edges edges (drop (at - 1) nodes) ≡ held_edges edges n ++ all_held_edges edges (drop at nodes)
entered edges nodes at n some there is =
    let next : at - 1 + 1 ≡ at = omega arith in
    ap (all_held_edges edges) (drop_more nodes (at - 1) n (omega arith))
    ∙ ap (λ (m : Node). held_edges edges m ++ all_held_edges edges (drop (at - 1 + 1) nodes)) (sym is)
    ∙ ap (λ (k : ℕ). held_edges edges n ++ all_held_edges edges (drop k nodes)) next

pub before_within : (edges : List EdgeEnds) (nodes : List Node) (at : ℕ) (n : Node) → AreNodes edges nodes → 0 < at → at ≤ length nodes
    → n ≡ get_or nodes (at - 1) n
    → n.before < at
before_within edges nodes at n all some there is =
    let h : IsEdgeNode edges nodes (at - 1) n = node_at edges nodes at n all some there is in omega (arith, h.after)

-- no edge of a run meets the cell, nor of those after it
pub missed_more : (run rest more : List EdgeEnds) (cell : Region) → more ≡ run ++ rest → any_meets run cell ≡ false → any_meets rest cell ≡ false
    → any_meets more cell ≡ false
missed_more run rest more cell is r s =
    ap (λ es. any_meets es cell) is ∙ list_any-append (λ e. not (misses e cell)) run rest ∙ or_from (any_meets run cell) (any_meets rest cell) r s

-- an edge of a node's run that meets the cell is one of all
pub met_in : (edges : List EdgeEnds) (nodes : List Node) (at : ℕ) (n : Node) (cell : Region) → 0 < at → at ≤ length nodes
    → n ≡ get_or nodes (at - 1) n → any_meets (held_edges edges n) cell ≡ true → any_meets (all_held_edges edges nodes) cell ≡ true
met_in edges nodes at n cell some there is h =
    ap (λ (ns : List Node). any_meets (all_held_edges edges ns) cell) (sym (take-append-drop (at - 1) nodes))
    ∙ ap (λ es. any_meets es cell) (flat_map-append (held_edges edges) (take (at - 1) nodes) (drop (at - 1) nodes))
    ∙ list_any-append (λ e. not (misses e cell)) (all_held_edges edges (take (at - 1) nodes)) (all_held_edges edges (drop (at - 1) nodes))
    ∙ or_right (any_meets (all_held_edges edges (take (at - 1) nodes)) cell) (any_meets (all_held_edges edges (drop (at - 1) nodes)) cell)
    (ap (λ es. any_meets es cell) (entered edges nodes at n some there is)
    ∙ list_any-append (λ e. not (misses e cell)) (held_edges edges n) (all_held_edges edges (drop at nodes))
    ∙ or_left (any_meets (held_edges edges n) cell) (any_meets (all_held_edges edges (drop at nodes)) cell) h)
