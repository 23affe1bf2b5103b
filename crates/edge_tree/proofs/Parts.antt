-- Runs of edges, as the code holds them and as the definitions see them.
use Rattle.std.proofs.Common.{◌≡◌, ℕ, ◌+◌, ◌-◌, ◌<◌, ◌≤◌, true, false, not, List, [], ◌∷◌, ◌++◌}
use Rattle.std.proofs.Common.{length, map, take, drop, get_or, sym, ap, ◌∙◌, subst, arith}
use Rattle.std.proofs.lemmas.List.Folds.{list_any_at}
use Rattle.std.specs.Prelude.{slice_range}
use Rattle.std.proofs.lemmas.List.Concat.{flat_map-append}
use Rattle.std.proofs.lemmas.List.{map_more, take-map, drop-map, length-map, get_or-map, take-take, drop-take, take-append-drop, append-nil}
use Rattle.point_codec.specs.Points.{Region}
use Rattle.ring_parity.specs.Edges.{EdgeEnds, misses}
use Rattle.ring_parity.specs.Rings.{any_meets}
use Rattle.ring_parity.specs.Seen.{ends_of}
use Rattle.ring_parity.specs.declared.edges.Edge.{Edge}
use Rattle.edge_tree.specs.declared.outline.Outline.{Outline}
use Rattle.edge_tree.specs.Outlines.{Outlines}
use Rattle.edge_tree.specs.declared.runs.Run.{Run}
use Rattle.edge_tree.specs.Nodes.{run_in, all_in}

-- a run of edges, seen
pub run_seen : (edges : List Edge) (first end : ℕ) → slice_range (map ends_of edges) first end ≡ map ends_of (take (end - first) (drop first edges))
run_seen edges first end = ap (take (end - first)) (drop-map ends_of first edges) ∙ take-map ends_of (end - first) (drop first edges)

pub outlines_more : (edges : List Edge) (i : ℕ) (e : Edge) (o : Outline) → i < length edges → e ≡ get_or edges i e
    → Outlines (map ends_of (take i edges) ++ ends_of e ∷ []) o → Outlines (map ends_of (take (i + 1) edges)) o
outlines_more edges i e o there is h =
    let more : map ends_of (take (i + 1) edges) ≡ map ends_of (take i edges) ++ ends_of e ∷ [] =
    map_more ends_of edges i e there ∙ ap (λ (d : Edge). map ends_of (take i edges) ++ ends_of d ∷ []) (sym is) in
    subst (λ (run : List EdgeEnds). Outlines run o) (sym more) h

-- an edge that meets the cell settles the answer, and one that does not leaves it
pub met : (edges : List Edge) (i : ℕ) (e : Edge) (cell : Region) → i < length edges → e ≡ get_or edges i e → misses (ends_of e) cell ≡ false
    → any_meets (map ends_of edges) cell ≡ true
met edges i e cell there is h =
    let long : length (map ends_of edges) ≡ length edges = length-map edges ends_of in
    list_any_at (λ d. not (misses d cell)) (map ends_of edges) i (ends_of e) (omega (arith, long))
    (ap (λ d. not (misses d cell)) (get_or-map ends_of edges i e (ends_of e) there ∙ ap ends_of (sym is)) ∙ ap not h)

-- one more run of those that follow each other
pub runs_more : (edges : List EdgeEnds) (runs : List Run) (r : Run) → r.first ≤ r.end → all_in edges runs ≡ take r.first edges
    → all_in edges (runs ++ r ∷ []) ≡ take r.end edges
runs_more edges runs r ordered h =
    let next : drop r.first (take r.end edges) ≡ run_in edges r =
    ap (λ n. drop r.first (take n edges)) (omega arith) ∙ drop-take r.first (r.end - r.first) edges in
    flat_map-append (run_in edges) runs (r ∷ []) ∙ ap (λ es. all_in edges runs ++ es) (append-nil (run_in edges r) ∙ sym next)
    ∙ ap (λ es. es ++ drop r.first (take r.end edges)) (h ∙ sym (take-take r.first r.end edges ordered))
    ∙ take-append-drop r.first (take r.end edges)

pub one_run : (edges : List EdgeEnds) (runs : List Run) (d : Run) → length runs ≡ 1 → all_in edges runs ≡ run_in edges (get_or runs 0 d)
one_run edges [] d one = absurd (omega arith)
one_run edges (r ∷ []) d one = append-nil (run_in edges r)
one_run edges (r ∷ s ∷ runs) d one = absurd (omega arith)
