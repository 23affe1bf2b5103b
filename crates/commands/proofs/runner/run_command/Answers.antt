-- The lines that were read are the source's text, and the status says how they ended.
use Rattle.std.proofs.Common.{◌≤◌, ◌^◌, ◌∙◌, ℕ, List, length, sym, ap, subst, inl}
use Rattle.run_status.specs.Ends.{DoesNothing}
use Rattle.run_status.proofs.Ending.{does_lines}
use Rattle.commands.proofs.runner.run_command.Goals as goal

pub returns-in-Ok-clause-promises : goal.returns-in-Ok-clause-promises
returns-in-Ok-clause-promises g c = record {
  ends = inl (record {
    text = c.as_slice.result.now;
    read = λ source. c.as_slice.ensures.value ∙ c.in-Ok.ensures.whole source;
    left = _;
    faults = _;
    result = c.lines.result;
    did = c.lines.ensures.does;
    status = c.status_of.ensures;
  });
  input = λ source. record {
    too_large = λ e. absurd (does_lines c.lines.result (subst DoesNothing (sym e ∙ c.status_of.ensures) tt));
    fits = λ _. subst (λ (xs : List ℕ). length xs ≤ 2 ^ 29) (c.in-Ok.ensures.whole source)
        (subst (λ (n : ℕ). n ≤ 2 ^ 29) c.in-Ok.lines.ok.0 c.in-Ok.ensures.fits);
    whole = λ _. ap g.S.Source.left c.lines.ensures.unread.still ∙ c.in-Ok.ensures.end source;
  };
  source = λ e. absurd (does_lines c.lines.result (subst DoesNothing (sym e ∙ c.status_of.ensures) tt));
}

pub returns-in-Ok-clause-untouched : goal.returns-in-Ok-clause-untouched
returns-in-Ok-clause-untouched g c = λ d. absurd (does_lines c.lines.result (subst DoesNothing c.status_of.ensures d))
