-- The box of the node over all edges has all points of the polygon.
use Rattle.std.proofs.Common.{◌≡◌, ◌%◌, ◌<◌, ℕ, ℤ, ◌≤ℤ◌, Bool, true, false, ◌||◌, eqb}
use Rattle.std.proofs.Common.{List, ◌-◌, length, take, drop, get_or, int_lt, refl, sym, ap, subst, ◌∙◌, arith, true≢false}
use Rattle.std.specs.Prelude.{All}
use Rattle.std.proofs.lemmas.Bool.{or_left, or_right, or_from}
use Rattle.std.proofs.lemmas.Int.{ints}
use Rattle.std.proofs.lemmas.List.{take_all}
use Rattle.ring_parity.specs.Edges.{EdgeEnds, x_of, y_of}
use Rattle.ring_parity.specs.Rings.{AreClosed, is_on_any, is_odd, is_within}
use Rattle.edge_tree.specs.declared.nodes.Node.{Node}
use Rattle.edge_tree.specs.declared.outline.Bounds.{Bounds}
use Rattle.edge_tree.specs.Nodes.{HaveSame, all_held_edges, AreNodes}
use Rattle.edge_tree.specs.Outlines.{IsBoxed, HasPosition, IsLocation, is_passed, pass_oddly, is_off_ray}
use Rattle.edge_tree.proofs.Passing.{off_ray, odd_west}
use Rattle.edge_tree.proofs.Same.{same_count, same_on, same_odd}
use Rattle.edge_tree.proofs.Walk.{below, outlined_at}

-- an even number of closed edges passes each height
even_passed : (edges : List EdgeEnds) (y : ℤ) → AreClosed edges → pass_oddly edges y ≡ false
unfolding AreClosed
even_passed edges y closed = ap (λ n. eqb n 1) (closed (λ v. int_lt y (y_of v)))

module _ (b : Bounds) (held edges : List EdgeEnds) (p : List ℤ) (boxed : All (IsBoxed b) held) (same : HaveSame held edges) (closed : AreClosed edges) where
  nowhere : (odd : Bool) → IsLocation held p false odd → odd ≡ false → is_within edges p ≡ false
  nowhere odd at even =
      or_from (is_on_any edges p) (is_odd edges p) (sym (same_on held edges p same) ∙ at.on_is) (sym (same_odd held edges p same) ∙ at.odd_is ∙ even)

  apart : is_off_ray b p ≡ true → is_within edges p ≡ false
  apart off = nowhere false (off_ray b held p boxed off) refl

  west : int_lt (x_of p) b.west ≡ true → is_within edges p ≡ false
  west less =
      nowhere (pass_oddly held (y_of p)) (odd_west b held p boxed less)
      (ap (λ n. eqb (n % 2) 1) (same_count held edges same (λ e. is_passed (y_of e.0) (y_of e.1) (y_of p))) ∙ even_passed edges (y_of p) closed)

  -- what does not lie outside lies within
  not_less : (x y : ℤ) → (int_lt x y ≡ true → is_within edges p ≡ false) → is_within edges p ≡ true → y ≤ℤ x
  not_less x y out has =
      elim (int_lt x y) as (λ less. int_lt x y ≡ less → y ≤ℤ x) [
        | true ↦ λ less. absurd (true≢false (sym has ∙ out less))
        | false ↦ λ no. omega (arith, ints)
      ] refl

  pub holds_within : is_within edges p ≡ true → HasPosition b p
  holds_within has =
      let east : Bool = int_lt b.east (x_of p) in
      let north : Bool = int_lt b.north (y_of p) in
      let south : Bool = int_lt (y_of p) b.south in
      record {
        west = not_less (x_of p) b.west west has;
        east = not_less b.east (x_of p) (λ less. apart (or_left east (north || south) less)) has;
        south = not_less (y_of p) b.south (λ less. apart (or_right east (north || south) (or_right north south less))) has;
        north = not_less b.north (y_of p) (λ less. apart (or_right east (north || south) (or_left north south less))) has;
      }

-- the last node outlines all that is held where its subtree begins with the first one
pub outlines_all : (edges : List EdgeEnds) (nodes : List Node) (at : ℕ) (n : Node) → AreNodes edges nodes → 0 < at → at ≡ length nodes
    → n ≡ get_or nodes (at - 1) n → n.before ≡ 0
    → All (IsBoxed n.outline.bounds) (all_held_edges edges nodes)
outlines_all edges nodes at n all some last is first =
    let whole : below edges nodes at n ≡ all_held_edges edges nodes =
    ap (λ k. all_held_edges edges (drop k (take at nodes))) first ∙ ap (all_held_edges edges) (take_all at nodes (omega (arith, last))) in
    subst (All (IsBoxed n.outline.bounds)) whole (outlined_at edges nodes at n all some (omega (arith, last)) is).boxed
