-- The hits of one box after the other.
use Rattle.std.proofs.Common.{◌≡◌, ◌≤◌, ◌+◌, ◌*◌, ◌^◌, Err, refl, sym, ap, ◌∙◌, arith, add-zero, length}
use Rattle.std.proofs.lemmas.Result.{err_from_is_err_and}
use Rattle.page_cache.specs.declared.faults.PageFault.{PageFault}
use Rattle.point_codec.specs.Points.{in_box}
use Rattle.cell_relate.specs.Boxes.{CountedBox}
use Rattle.documents.specs.Documents.{hits}
use Rattle.drawn_points.specs.Draws.{draw, points}
use Rattle.drawn_points.specs.Generated.{box_hits}
use Rattle.generate_index.specs.Generates.{drawn_index, made_docs}
use Rattle.generate_index.proofs.Making.{makes_none, makes_ok, makes_reads, makes_stopped, makes_then}
use Rattle.generate_index.proofs.Sums.{hits_more}
use Rattle.generate_index.proofs.generator.ask_boxes.Goals as goal

pub boxes-init : goal.boxes-init
boxes-init g c = record {
  makes = λ seed n. makes_none _ _ _ tt;
  hits = λ told seed n before drawn. refl;
  drawn = λ seed n drawn. drawn ∙ ap (λ k. draw seed (2 * k)) (sym (add-zero n));
  within = omega arith;
}

pub boxes-preserved : goal.boxes-preserved
boxes-preserved g c = record {
  makes = λ seed n.
      makes_ok _ _ _ _ _ c.in_ok-found.found tt (makes_then _ _ _ _ _ _ _ tt _ (c.boxes.invariant.makes seed n)
      (makes_reads _ (drawn_index seed n n) _ _ _ (λ t. c.hits_of.ensures.seen t (drawn_index seed n n)) c.hits_of.ensures.guards c.hits_of.ensures.files
      c.hits_of.ensures.rest c.in_ok-found.ensures.cause
      (λ t. c.in_ok-found.ensures.whole t (drawn_index seed n n)) c.hits_of.ensures.faithful c.in_ok-found.ensures.evident));
  hits = λ told seed n before drawn.
      let at = c.boxes.invariant.drawn seed n drawn in
      let sees = (c.boxes.invariant.makes seed n).made told before in
      let few : n ≤ 2 ^ 24 = omega (arith, before.points_given, c.points_given-points_given.ensures.most) in
      let count : c.len.result ≡ length (hits (in_box c.new-shape.result.bounds) (made_docs seed n)) =
      c.len.ensures ∙ (c.in_ok-found.found.docs.ok.0 ∙ ap length (c.in_ok-found.ensures.found told (drawn_index seed n n) sees)) in
      c.saturating_add-hits.ensures
      ∙ hits_more seed n c.boxes.boxes _ _ _ _ _ (ap (λ (a : CountedBox). a.bounds) c.new-shape.ensures) (c.corners.ensures.low seed (n + c.boxes.boxes) at)
      (c.corners.ensures.high seed (n + c.boxes.boxes) at) few c.boxes-test.true
      c.sums_are_small.ensures.boxes (c.boxes.invariant.hits told seed n before drawn) count;
  drawn = λ seed n drawn. c.corners.ensures.after seed (n + c.boxes.boxes) (c.boxes.invariant.drawn seed n drawn)
      ∙ ap (λ k. draw seed (2 * k)) (let more : n + c.boxes.boxes + 1 ≡ n + (c.boxes.boxes + 1) = omega arith in more);
  within = omega (arith, c.boxes-test.true);
}

pub returns-in_err-found-clause-makes : goal.returns-in_err-found-clause-makes
returns-in_err-found-clause-makes g c = λ seed n.
    let p = err_from_is_err_and c.from_residual.result c.from_residual.ensures.1 in
    makes_stopped _ _ _ _ _ _ c.in_err-found.field-0.0 _ (p.1 ∙ ap (λ (e : PageFault). Err e) p.2)
    (makes_then _ _ _ _ _ _ _ tt _ (c.boxes.invariant.makes seed n)
    (makes_reads _ (drawn_index seed n n) _ _ _ (λ t. c.hits_of.ensures.seen t (drawn_index seed n n)) c.hits_of.ensures.guards c.hits_of.ensures.files
    c.hits_of.ensures.rest c.in_err-found.ensures.cause
    (λ t. c.in_err-found.ensures.whole t (drawn_index seed n n)) c.hits_of.ensures.faithful c.in_err-found.ensures.evident))

pub returns-clause-makes : goal.returns-clause-makes
returns-clause-makes g c = λ seed n. makes_ok _ _ _ _ _ tt _ (c.boxes.invariant.makes seed n)

pub returns-clause-hits : goal.returns-clause-hits
returns-clause-hits g c = λ told seed n before drawn.
    let all : c.boxes.boxes ≡ 64 = omega (arith, c.boxes-test.false, c.boxes.invariant.within) in
    c.boxes.invariant.hits told seed n before drawn ∙ ap (λ k. box_hits (made_docs seed n) (points seed n k)) all

pub returns-clause-drawn : goal.returns-clause-drawn
returns-clause-drawn g c = λ seed n drawn.
    let all : c.boxes.boxes ≡ 64 = omega (arith, c.boxes-test.false, c.boxes.invariant.within) in
    c.boxes.invariant.drawn seed n drawn ∙ ap (λ k. draw seed (2 * (n + k))) all
