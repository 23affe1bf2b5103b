-- The distances of one query after the other.
use Rattle.std.proofs.Common.{◌≡◌, ◌+◌, ◌*◌, ◌<◌, ◌^◌, ℕ, Err, refl, sym, ap, subst, ◌∙◌, arith, add-zero}
use Rattle.std.specs.List.{sum_by}
use Rattle.std.proofs.lemmas.Result.{err_from_is_err_and}
use Rattle.page_cache.specs.declared.faults.PageFault.{PageFault}
use Rattle.documents.specs.Nearest.{found_of}
use Rattle.drawn_points.specs.Draws.{draw, points}
use Rattle.drawn_points.specs.Generated.{near_sum}
use Rattle.generate_index.specs.Generates.{drawn_index, made_docs}
use Rattle.generate_index.proofs.Making.{makes_none, makes_ok, makes_reads, makes_stopped, makes_then}
use Rattle.generate_index.proofs.Sums.{near_more}
use Rattle.generate_index.proofs.generator.ask_nearest.Goals as goal

pub queries-init : goal.queries-init
queries-init g c = record {
  makes = λ seed n. makes_none _ _ _ tt;
  near = λ told seed n before drawn. refl;
  drawn = λ seed n drawn. drawn ∙ ap (λ k. draw seed (2 * k)) (sym (add-zero (n + 64)));
  within = omega arith;
}

pub queries-preserved : goal.queries-preserved
queries-preserved g c = record {
  makes = λ seed n.
      makes_ok _ _ _ _ _ c.in_ok-found.found tt (makes_then _ _ _ _ _ _ _ tt _ (c.queries.invariant.makes seed n)
      (makes_reads _ (drawn_index seed n n) _ _ _ (λ t. c.nearest_to.ensures.seen t (drawn_index seed n n)) c.nearest_to.ensures.guards
      c.nearest_to.ensures.files c.nearest_to.ensures.rest c.in_ok-found.ensures.cause
      (λ t. c.in_ok-found.ensures.whole t (drawn_index seed n n)) c.nearest_to.ensures.faithful c.in_ok-found.ensures.evident));
  near = λ told seed n before drawn.
      let at = c.queries.invariant.drawn seed n drawn in
      let sees = (c.queries.invariant.makes seed n).made told before in
      c.saturating_add-near.ensures
      ∙ near_more seed n (n + 64) c.queries.queries _ _ _ _ (c.point-at.ensures.point seed (n + 64 + c.queries.queries) at) (omega (arith, c.queries-test.true))
      (c.sums_are_small.ensures.near seed n n (n + 64))
      (c.queries.invariant.near told seed n before drawn) (c.in_ok-found.ensures.found told (drawn_index seed n n) sees)
      (subst (λ ns. sum_by (λ (f : ℕ × ℕ). f.0) (found_of ns) < 2 ^ 128 → c.distances_of.result ≡ sum_by (λ (f : ℕ × ℕ). f.0) (found_of ns))
      c.as_slice.ensures.value c.distances_of.ensures);
  drawn = λ seed n drawn.
      c.point-at.ensures.after seed (n + 64 + c.queries.queries) (c.queries.invariant.drawn seed n drawn)
      ∙ ap (λ k. draw seed (2 * k)) (let more : n + 64 + c.queries.queries + 1 ≡ n + 64 + (c.queries.queries + 1) = omega arith in more);
  within = omega (arith, c.queries-test.true);
}

pub returns-in_err-found-clause-makes : goal.returns-in_err-found-clause-makes
returns-in_err-found-clause-makes g c = λ seed n.
    let p = err_from_is_err_and c.from_residual.result c.from_residual.ensures.1 in
    makes_stopped _ _ _ _ _ _ c.in_err-found.field-0.0 _ (p.1 ∙ ap (λ (e : PageFault). Err e) p.2)
    (makes_then _ _ _ _ _ _ _ tt _ (c.queries.invariant.makes seed n)
    (makes_reads _ (drawn_index seed n n) _ _ _ (λ t. c.nearest_to.ensures.seen t (drawn_index seed n n)) c.nearest_to.ensures.guards c.nearest_to.ensures.files
    c.nearest_to.ensures.rest c.in_err-found.ensures.cause
    (λ t. c.in_err-found.ensures.whole t (drawn_index seed n n)) c.nearest_to.ensures.faithful c.in_err-found.ensures.evident))

pub returns-clause-makes : goal.returns-clause-makes
returns-clause-makes g c = λ seed n. makes_ok _ _ _ _ _ tt _ (c.queries.invariant.makes seed n)

pub returns-clause-near : goal.returns-clause-near
returns-clause-near g c = λ told seed n before drawn.
    let all : c.queries.queries ≡ 16 = omega (arith, c.queries-test.false, c.queries.invariant.within) in
    c.queries.invariant.near told seed n before drawn ∙ ap (λ k. near_sum (made_docs seed n) (points seed (n + 64) k)) all
