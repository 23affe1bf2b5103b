-- What the line did is known, and its answer was sent.
use Rattle.std.proofs.Common.{ℕ, List, ◌++◌, None, ap, ◌∙◌, inr, refl}
use Rattle.std.proofs.lemmas.Result.{err_from_is_err_and}
use Rattle.script_run.specs.LineAnswers.{IsFirstAnswer, IsNewWithin}
use Rattle.script_run.proofs.Lined.{known_is, only_sink}
use Rattle.script_run.proofs.answers.answer_first.Goals as goal
use Rattle.script_run.specs.Languages.{answer}
use Rattle.run_status.proofs.Ending.{sent_as}

pub returns-clause-opening : goal.returns-clause-opening
returns-clause-opening g c =
    known_is (IsFirstAnswer (answer c.args.language c.args.number None c.args.line.now)) c.in_ok-opening.opening c.send.result c.send.ensures.known
    c.in_ok-opening.ensures.opening

pub returns-clause-limits : goal.returns-clause-limits
returns-clause-limits g c = known_is IsNewWithin c.in_ok-opening.opening c.send.result c.send.ensures.known c.in_ok-opening.ensures.limits

pub returns-clause-text : goal.returns-clause-text
returns-clause-text g c = λ sink. sent_as _ _ _ _ c.send.result
    (c.as_slice.ensures.value ∙ c.in_ok-opening.ensures.text
    ∙ ap (λ (w : List ℕ). w ++ (answer c.args.language c.args.number None c.args.line.now).text) c.clear.ensures.items) (c.send.ensures.text sink)

pub returns-clause-cause : goal.returns-clause-cause
returns-clause-cause g c = only_sink c.send.result c.send.ensures.cause

pub returns-in_err-opening-clause-text : goal.returns-in_err-opening-clause-text
returns-in_err-opening-clause-text g c = λ sink.
    let p = err_from_is_err_and c.from_residual.result c.from_residual.ensures.1 in
    rw (p.1, p.2) refl

pub returns-in_err-opening-clause-cause : goal.returns-in_err-opening-clause-cause
returns-in_err-opening-clause-cause g c =
    let p = err_from_is_err_and c.from_residual.result c.from_residual.ensures.1 in
    rw (p.1, p.2) (inr refl)
