-- The nodes of a tree, one more node at a time.
use Rattle.std.proofs.Common.{◌≡◌, ℕ, suc, ◌<◌, ◌≤◌, ⊎_elim, List, [], ◌∷◌, ◌++◌, length, take, drop, get_or, sym, ap, ◌∙◌, subst, arith}
use Rattle.std.proofs.lemmas.Bool.{cases_lt}
use Rattle.std.proofs.lemmas.List.{length-take, length_push, get_or_append_left, get_or_at, take-take, take_all}
use Rattle.std.proofs.lemmas.List.{take-append-le, take-append-drop, drop_all, drop-append-le, append-nil}
use Rattle.std.proofs.lemmas.List.Concat.{flat_map-append}
use Rattle.ring_parity.specs.Edges.{EdgeEnds}
use Rattle.edge_tree.specs.declared.runs.Run.{Run}
use Rattle.edge_tree.specs.declared.nodes.Node.{Node}
use Rattle.edge_tree.specs.declared.outline.Outline.{Outline}
use Rattle.edge_tree.specs.Outlines.{Outlines}
use Rattle.edge_tree.specs.Nodes.{run_in, all_in, held_edges, all_held_edges, HoldsRun, IsEdgeNode, AreNodes}

IsNode-push : (edges : List EdgeEnds) (nodes : List Node) (n : Node) (place : ℕ) (m : Node) → place < length nodes → IsEdgeNode edges nodes place m
    → IsEdgeNode edges (nodes ++ n ∷ []) place m
IsNode-push edges nodes n place m there h = record {
  ordered = h.ordered;
  there = h.there;
  after = h.after;
  outlined =
      subst (λ (before : List Node). Outlines (all_held_edges edges (drop m.before before)) m.outline)
      (sym (take-append-le (suc place) nodes (n ∷ []) (omega arith))) h.outlined;
}

AreNodes-push : (edges : List EdgeEnds) (nodes : List Node) (n : Node) → AreNodes edges nodes → IsEdgeNode edges (nodes ++ n ∷ []) (length nodes) n
    → AreNodes edges (nodes ++ n ∷ [])
AreNodes-push edges nodes n all one = λ place d within.
    ⊎_elim
    (λ (early : place < length nodes).
    subst (λ (m : Node). IsEdgeNode edges (nodes ++ n ∷ []) place m) (sym (get_or_append_left nodes (n ∷ []) d place early))
    (IsNode-push edges nodes n place (get_or nodes place d) early (all place d early)))
    (λ (late : length nodes ≤ place).
    let last : length nodes ≡ place = omega (arith, length_push nodes n) in
    subst (λ (m : Node). IsEdgeNode edges (nodes ++ n ∷ []) place m) (sym (get_or_at nodes n [] d place last))
    (subst (λ (k : ℕ). IsEdgeNode edges (nodes ++ n ∷ []) k n) last one))
    (cases_lt place (length nodes))

-- a subtree's last node beside what its halves left, or alone
pub record IsLastNode (edges : List EdgeEnds) (old now : List Node) (run : List EdgeEnds) (n : Node) : Type 0 where
  pub sound : AreNodes edges now
  pub kept : take (length old) now ≡ old
  pub together : all_held_edges edges (drop (length old) now) ++ held_edges edges n ≡ run
  pub outlined : Outlines run n.outline
  pub ordered : n.first ≤ n.end
  pub there : n.end ≤ length edges
  pub begins : n.before ≡ length old

shorter : (old now : List Node) → take (length old) now ≡ old → length old ≤ length now
shorter old now h = omega (arith, ap length h, length-take (length old) now)

pub held_pushed : (edges : List EdgeEnds) (old now : List Node) (run : List EdgeEnds) (n : Node) → IsLastNode edges old now run n
    → all_held_edges edges (drop (length old) (now ++ n ∷ [])) ≡ run
held_pushed edges old now run n h =
    ap (all_held_edges edges) (drop-append-le (length old) now (n ∷ []) (shorter old now h.kept))
    ∙ flat_map-append (held_edges edges) (drop (length old) now) (n ∷ [])
    ∙ ap (λ es. all_held_edges edges (drop (length old) now) ++ es) (append-nil (held_edges edges n)) ∙ h.together

pub kept_pushed : (edges : List EdgeEnds) (old now : List Node) (run : List EdgeEnds) (n : Node) → IsLastNode edges old now run n
    → take (length old) (now ++ n ∷ []) ≡ old
kept_pushed edges old now run n h = take-append-le (length old) now (n ∷ []) (shorter old now h.kept) ∙ h.kept

pub sound_pushed : (edges : List EdgeEnds) (old now : List Node) (run : List EdgeEnds) (n : Node) → IsLastNode edges old now run n
    → AreNodes edges (now ++ n ∷ [])
sound_pushed edges old now run n h =
    let told : all_held_edges edges (drop n.before (take (suc (length now)) (now ++ n ∷ []))) ≡ run =
    ap (λ (nodes : List Node). all_held_edges edges (drop n.before nodes)) (take_all (suc (length now)) (now ++ n ∷ []) (omega (arith, length_push now n)))
    ∙ ap (λ k. all_held_edges edges (drop k (now ++ n ∷ []))) h.begins ∙ held_pushed edges old now run n h in
    AreNodes-push edges now n h.sound (record {
      ordered = h.ordered;
      there = h.there;
      after = omega (arith, h.begins, shorter old now h.kept);
      outlined = subst (λ (es : List EdgeEnds). Outlines es n.outline) (sym told) h.outlined;
    })

-- a node that holds a run stands as a leaf behind the others
pub leaf_stands : (edges : List EdgeEnds) (nodes : List Node) (run : List EdgeEnds) (n : Node) → AreNodes edges nodes → HoldsRun edges run n
    → n.before ≡ length nodes
    → IsLastNode edges nodes nodes run n
leaf_stands edges nodes run n sound h begins = record {
  sound = sound;
  kept = take_all (length nodes) nodes (omega arith);
  together = ap (λ (ns : List Node). all_held_edges edges ns ++ held_edges edges n) (drop_all (length nodes) nodes (omega arith)) ∙ h.held;
  outlined = h.outlined;
  ordered = h.ordered;
  there = h.there;
  begins = begins;
}

-- a node over two halves, the second after the first
pub halves_stand : (edges : List EdgeEnds) (old mid now : List Node) (first second runs : List Run) (left right o : Outline) (before : ℕ)
    → first ++ second ≡ runs
    → take (length old) mid ≡ old → take (length mid) now ≡ mid → AreNodes edges now
    → all_held_edges edges (drop (length old) mid) ≡ all_in edges first → all_held_edges edges (drop (length mid) now) ≡ all_in edges second
    → Outlines (all_in edges first) left → Outlines (all_in edges second) right
    → ((xs ys : List EdgeEnds) → Outlines xs left → Outlines ys right → Outlines (xs ++ ys) o) → before ≡ length old
    → IsLastNode edges old now (all_in edges runs) (record { outline = o; first = 0; end = 0; before = before })
halves_stand edges old mid now first second runs left right o before whole early late sound f s l r joined begins =
    let less : length old ≤ length mid = shorter old mid early in
    let all : all_in edges first ++ all_in edges second ≡ all_in edges runs = sym (flat_map-append (run_in edges) first second) ∙ ap (all_in edges) whole in
    let added : drop (length old) now ≡ drop (length old) mid ++ drop (length mid) now =
    ap (drop (length old)) (sym (take-append-drop (length mid) now) ∙ ap (λ (ns : List Node). ns ++ drop (length mid) now) late)
    ∙ drop-append-le (length old) mid (drop (length mid) now) less in
    record {
      sound = sound;
      kept = sym (take-take (length old) (length mid) now less) ∙ ap (take (length old)) late ∙ early;
      together =
          append-nil (all_held_edges edges (drop (length old) now)) ∙ ap (all_held_edges edges) added
          ∙ flat_map-append (held_edges edges) (drop (length old) mid) (drop (length mid) now)
          ∙ ap (λ es. es ++ all_held_edges edges (drop (length mid) now)) f ∙ ap (λ es. all_in edges first ++ es) s ∙ all;
      outlined = subst (λ (es : List EdgeEnds). Outlines es o) all (joined (all_in edges first) (all_in edges second) l r);
      ordered = omega arith;
      there = omega arith;
      begins = begins;
    }
