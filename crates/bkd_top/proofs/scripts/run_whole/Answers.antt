-- The script that was read is the source's text.
use Rattle.std.proofs.Common.{refl, sym, subst, ◌∙◌, inl, ◌≤◌, ◌^◌, ℕ, List, length}
use Rattle.index_core.proofs.Brought.{commit_itself}
use Rattle.commands.proofs.Opening.{stays_same}
use Rattle.run_status.specs.Ends.{DoesNothing}
use Rattle.script_run.proofs.Calling.{nothing_costs}
use Rattle.script_run.proofs.Going.{stops_here}
use Rattle.script_run.specs.Languages.{meaning}
use Rattle.bkd_top.proofs.scripts.run_whole.Goals as goal

pub returns-in-Ok-clause-never_usage : goal.returns-in-Ok-clause-never_usage
returns-in-Ok-clause-never_usage g c = λ e. c.run_text.ensures.lines (subst DoesNothing (sym e) tt)

pub returns-in-Ok-clause-ends : goal.returns-in-Ok-clause-ends
returns-in-Ok-clause-ends g c = λ source told state h. rw (c.as_slice.ensures.value ∙ c.in-Ok.ensures.whole source) at (c.run_text.ensures.ends told state h)

pub returns-in-Ok-clause-untouched : goal.returns-in-Ok-clause-untouched
returns-in-Ok-clause-untouched g c = λ d. absurd (c.run_text.ensures.lines d)

pub returns-in-Err-Failed-clause-ends : goal.returns-in-Err-Failed-clause-ends
returns-in-Err-Failed-clause-ends g c = λ source told state h. record { text = λ sink. refl; stored = h }

pub returns-in-Err-TooLarge-clause-ends : goal.returns-in-Err-TooLarge-clause-ends
returns-in-Err-TooLarge-clause-ends g c = λ source told state h. record { text = λ sink. refl; stored = h }

pub returns-in-Err-Memory-clause-ends : goal.returns-in-Err-Memory-clause-ends
returns-in-Err-Memory-clause-ends g c = λ source told state h. stops_here (meaning c.args.work.now.language) _ _ _ (λ sink. refl) (inl h)

pub returns-in-Ok-clause-canon : goal.returns-in-Ok-clause-canon
returns-in-Ok-clause-canon g c = c.run_text.ensures.canon

pub returns-in-Err-Failed-clause-canon : goal.returns-in-Err-Failed-clause-canon
returns-in-Err-Failed-clause-canon g c = λ told state h a. absurd a

pub returns-in-Err-TooLarge-clause-canon : goal.returns-in-Err-TooLarge-clause-canon
returns-in-Err-TooLarge-clause-canon g c = λ told state h a. absurd a

pub returns-in-Err-Memory-clause-canon : goal.returns-in-Err-Memory-clause-canon
returns-in-Err-Memory-clause-canon g c = λ told state h a. absurd a

pub returns-in-Ok-clause-input : goal.returns-in-Ok-clause-input
returns-in-Ok-clause-input g c = λ told. record {
  too_large = λ e. absurd (c.run_text.ensures.lines (subst DoesNothing (sym e) tt));
  fits = λ _. subst (λ (xs : List ℕ). length xs ≤ 2 ^ 29) (c.in-Ok.ensures.whole told) (subst (λ (n : ℕ). n ≤ 2 ^ 29) c.in-Ok.script.ok.0 c.in-Ok.ensures.fits);
  whole = λ _. c.in-Ok.ensures.end told;
}

pub returns-in-Ok-clause-causes : goal.returns-in-Ok-clause-causes
returns-in-Ok-clause-causes g c = record {
  source = λ e. absurd (c.run_text.ensures.lines (subst DoesNothing (sym e) tt));
  folder = c.run_text.ensures.folder_fault;
  sink = c.run_text.ensures.sink_fault;
}

pub returns-in-Ok-clause-costs : goal.returns-in-Ok-clause-costs
returns-in-Ok-clause-costs g c = λ source told. rw (c.as_slice.ensures.value ∙ c.in-Ok.ensures.whole source) at (c.run_text.ensures.costs told)

pub returns-in-Err-Failed-clause-costs : goal.returns-in-Err-Failed-clause-costs
returns-in-Err-Failed-clause-costs g c = λ source told. nothing_costs c.args.work.now.language _ _ _ _ (λ a. a)

pub returns-in-Err-TooLarge-clause-costs : goal.returns-in-Err-TooLarge-clause-costs
returns-in-Err-TooLarge-clause-costs g c = λ source told. nothing_costs c.args.work.now.language _ _ _ _ (λ a. a)

pub returns-in-Err-Memory-clause-costs : goal.returns-in-Err-Memory-clause-costs
returns-in-Err-Memory-clause-costs g c = λ source told. nothing_costs c.args.work.now.language _ _ _ _ (λ a. a)

pub returns-in-Ok-clause-lasting : goal.returns-in-Ok-clause-lasting
returns-in-Ok-clause-lasting g c = c.run_text.ensures.lasting

pub returns-in-Err-Failed-clause-lasting : goal.returns-in-Err-Failed-clause-lasting
returns-in-Err-Failed-clause-lasting g c = λ told. commit_itself _

pub returns-in-Err-TooLarge-clause-lasting : goal.returns-in-Err-TooLarge-clause-lasting
returns-in-Err-TooLarge-clause-lasting g c = λ told. commit_itself _

pub returns-in-Err-Memory-clause-lasting : goal.returns-in-Err-Memory-clause-lasting
returns-in-Err-Memory-clause-lasting g c = λ told. commit_itself _

pub returns-in-Ok-clause-opened : goal.returns-in-Ok-clause-opened
returns-in-Ok-clause-opened g c = c.run_text.ensures.opened

pub returns-in-Err-Failed-clause-opened : goal.returns-in-Err-Failed-clause-opened
returns-in-Err-Failed-clause-opened g c = λ told. stays_same _ _ (λ a. a)

pub returns-in-Err-TooLarge-clause-opened : goal.returns-in-Err-TooLarge-clause-opened
returns-in-Err-TooLarge-clause-opened g c = λ told. stays_same _ _ (λ a. a)

pub returns-in-Err-Memory-clause-opened : goal.returns-in-Err-Memory-clause-opened
returns-in-Err-Memory-clause-opened g c = λ told. stays_same _ _ (λ a. a)
