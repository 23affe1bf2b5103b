-- An entry for each point that is drawn.
use Rattle.std.proofs.Common.{◌≡◌, ◌+◌, ◌*◌, ◌∷◌, [], ◌++◌, List, get_or, map, ℕ, refl, sym, ap, ◌∙◌, arith, length}
use Rattle.std.proofs.lemmas.List.{length-append, map-append}
use Rattle.std.proofs.lemmas.List.FromFn.{get_or-map-range_with_len, map-range_with_len_more}
use Rattle.point_codec.specs.declared.entries.Entry.{Entry}
use Rattle.segment_set.specs.AtOnce.{points_in}
use Rattle.drawn_points.specs.Draws.{draw, point, points}
use Rattle.generate_index.proofs.drawing.drawn_entries.Goals as goal

pub adds-init : goal.adds-init
unfolding draw
adds-init c = record {
  points = ap points_in c.in_ok-entries.ensures.items;
  numbers = ap (map (λ (e : Entry 2). e.doc)) c.in_ok-entries.ensures.items;
  counted = ap length c.in_ok-entries.ensures.items;
  drawn = refl;
  within = omega arith;
  room = c.in_ok-entries.ensures.capacity;
}

pub adds-preserved : goal.adds-preserved
adds-preserved c =
    let n = c.adds.doc in
    let seed = c.args.draws.now in
    let entry : Entry 2 = record { doc = n; point = c.point-point.result } in
    let is : c.point-point.result.c ≡ point seed n = c.point-point.ensures.point seed n c.adds.invariant.drawn in
    record {
      points = ap points_in c.push_reserved.ensures.items ∙ map-append (λ (e : Entry 2). e.point.c) c.adds.entries.items (entry ∷ [])
          ∙ (λ i. c.adds.invariant.points i ++ is i ∷ []) ∙ sym (map-range_with_len_more (point seed) 0 n n (omega arith));
      numbers = ap (map (λ (e : Entry 2). e.doc)) c.push_reserved.ensures.items
          ∙ map-append (λ (e : Entry 2). e.doc) c.adds.entries.items (entry ∷ []) ∙ ap (λ (ns : List ℕ). ns ++ n ∷ []) c.adds.invariant.numbers
          ∙ sym (map-range_with_len_more (λ (i : ℕ). i) 0 n n (omega arith));
      counted = omega (
        arith,
        ap length c.push_reserved.ensures.items,
        length-append c.adds.entries.items (entry ∷ []),
        c.adds.invariant.counted,
      );
      drawn = c.point-point.ensures.after seed n c.adds.invariant.drawn;
      within = omega (arith, c.adds-test.true);
      room = omega (arith, c.push_reserved.ensures.capacity, c.adds.invariant.room);
    }

pub returns-clause-points : goal.returns-clause-points
returns-clause-points c =
    let all : c.adds.doc ≡ c.args.docs = omega (arith, c.adds-test.false, c.adds.invariant.within) in
    c.adds.invariant.points ∙ ap (points c.args.draws.now 0) all

pub returns-clause-numbers : goal.returns-clause-numbers
returns-clause-numbers c = λ k lt.
    ap (λ (ns : List ℕ). get_or ns k 0) c.adds.invariant.numbers
    ∙ get_or-map-range_with_len (λ (i : ℕ). i) 0 c.adds.doc k k 0 (omega (arith, lt, c.adds.invariant.counted)) (omega arith)
    ∙ omega arith

pub returns-clause-drawn : goal.returns-clause-drawn
returns-clause-drawn c =
    let all : c.adds.doc ≡ c.args.docs = omega (arith, c.adds-test.false, c.adds.invariant.within) in
    c.adds.invariant.drawn ∙ ap (λ n. draw c.args.draws.now (2 * n)) all
