-- Points are read while words are left, and the words that are left are counted by the caller.
use Rattle.std.proofs.Common.{◌≡◌, ◌∙◌, ◌<◌, ◌≤◌, length, rules, arith, sym}
use Rattle.std.proofs.lemmas.Bool.{eqb-false, eqb-true}
use Rattle.std.proofs.lemmas.Result.{err_from_is_err_and}
use Rattle.script_lang.specs.Parts.{words_left}
use Rattle.script_lang.proofs.ReadPoints.{none_left, points_fault, reads_all, reads_more, some_read}
use Rattle.script_lang.proofs.Values.{rest_both}
use Rattle.script_lang.proofs.changes.next_points.Goals as goal

pub document-preserved : goal.document-preserved
document-preserved g c =
    let whole : length c.in_ok-point_at.field-0.c ≡ g.row.D = search rules in
    record {
      reads = reads_more _ _ c.in_ok-point_at.field-0 _ _ _ c.document.invariant.reads c.in_ok-point_at.ensures.reads whole c.in_ok-push.ensures.items;
      few = search rules;
      rest = rest_both c.document.invariant.rest c.in_ok-point_at.ensures.rest;
    }

pub returns-then-is_empty-clause-points : goal.returns-then-is_empty-clause-points
returns-then-is_empty-clause-points g c = λ count all few.
    let none : length (words_left c.document.words) ≡ 0 = eqb-true _ _ (sym c.is_empty.ensures ∙ c.if-is_empty.true) in
    reads_all count _ _ _ c.requires.some c.document.invariant.reads none all

pub returns-then-is_empty-clause-some : goal.returns-then-is_empty-clause-some
returns-then-is_empty-clause-some g c = λ more.
    let none : length (words_left c.document.words) ≡ 0 = eqb-true _ _ (sym c.is_empty.ensures ∙ c.if-is_empty.true) in
    some_read _ _ _ c.document.invariant.reads none more

pub returns-then-is_empty-clause-few : goal.returns-then-is_empty-clause-few
returns-then-is_empty-clause-few g c = omega (arith, c.document.invariant.few, c.document.points.ok.0)

pub returns-then-is_empty-clause-rest : goal.returns-then-is_empty-clause-rest
returns-then-is_empty-clause-rest g c = c.document.invariant.rest

pub returns-in_err-point_at-clause-points : goal.returns-in_err-point_at-clause-points
returns-in_err-point_at-clause-points g c = λ count all few.
    let p = err_from_is_err_and c.from_residual.result c.from_residual.ensures.1 in
    let no : length (words_left c.document.words) ≡ 0 → ⊥ = eqb-false _ _ (sym c.is_empty.ensures ∙ c.if-is_empty.false) in
    let some : 0 < length (words_left c.document.words) = omega (arith, no) in
    rw (p.1, p.2) (λ other. points_fault _ count _ _ _ c.document.invariant.reads some all c.in_err-point_at.ensures.reads)

pub returns-in_err-point_at-clause-some : goal.returns-in_err-point_at-clause-some
returns-in_err-point_at-clause-some g c = λ more.
    let p = err_from_is_err_and c.from_residual.result c.from_residual.ensures.1 in
    rw (p.1) tt

pub returns-in_err-point_at-clause-few : goal.returns-in_err-point_at-clause-few
returns-in_err-point_at-clause-few g c =
    let p = err_from_is_err_and c.from_residual.result c.from_residual.ensures.1 in
    rw (p.1) tt

pub returns-in_err-point_at-clause-rest : goal.returns-in_err-point_at-clause-rest
returns-in_err-point_at-clause-rest g c = rest_both c.document.invariant.rest c.in_err-point_at.ensures.rest

-- want of memory says nothing
pub returns-in_err-push-clause-points : goal.returns-in_err-push-clause-points
returns-in_err-push-clause-points g c = λ count all few.
    let p = err_from_is_err_and c.from_residual-in_err-push.result c.from_residual-in_err-push.ensures.1 in
    rw (p.1) (λ other. absurd (other p.2))

pub returns-in_err-push-clause-some : goal.returns-in_err-push-clause-some
returns-in_err-push-clause-some g c = λ more.
    let p = err_from_is_err_and c.from_residual-in_err-push.result c.from_residual-in_err-push.ensures.1 in
    rw (p.1) tt

pub returns-in_err-push-clause-few : goal.returns-in_err-push-clause-few
returns-in_err-push-clause-few g c =
    let p = err_from_is_err_and c.from_residual-in_err-push.result c.from_residual-in_err-push.ensures.1 in
    rw (p.1) tt

pub returns-in_err-push-clause-rest : goal.returns-in_err-push-clause-rest
returns-in_err-push-clause-rest g c = rest_both c.document.invariant.rest c.in_ok-point_at.ensures.rest

pub returns-clause-points : goal.returns-clause-points
returns-clause-points g c = λ count all few.
    let many : 16 ≤ length c.document.points.items = omega (arith, c.document.points.ok.0) in
    let none : length (words_left c.document.words) ≡ 0 = none_left count _ _ _ c.document.invariant.reads many few all in
    reads_all count _ _ _ c.requires.some c.document.invariant.reads none all

pub returns-clause-some : goal.returns-clause-some
returns-clause-some g c = λ more. omega (arith, c.document.points.ok.0)

pub returns-clause-few : goal.returns-clause-few
returns-clause-few g c = omega (arith, c.document.invariant.few, c.document.points.ok.0)

pub returns-clause-rest : goal.returns-clause-rest
returns-clause-rest g c = c.document.invariant.rest
