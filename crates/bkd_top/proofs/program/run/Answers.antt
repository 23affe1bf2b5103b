-- The words say which command is run; where they are of none nothing is done.
use Rattle.std.proofs.Common.{◌≡◌, Option, Err, ap, subst, false}
use Rattle.command_words.specs.Commands.{Task}
use Rattle.command_words.specs.declared.WordsFault.{WordsFault}
use Rattle.bkd_top.specs.Commands.{does, is_session, reads_input}
use Rattle.bkd_top.proofs.Headlines.{headline}
use Rattle.bkd_top.proofs.Promised.{memory_promises, task_promises, usage_promises}
use Rattle.bkd_top.proofs.Commanding.{is_none_and}
use Rattle.bkd_top.proofs.program.run.Goals as goal

pub returns-in-Ok-clause-all : goal.returns-in-Ok-clause-all
returns-in-Ok-clause-all g c = task_promises _ _ _ _ _ _ _ _ c.in-Ok.ensures.words (record {
  used = c.run_command.ensures.never_usage;
  large = c.run_command.ensures.large;
  ends = c.run_command.ensures.ends;
  input = c.run_command.ensures.input;
  canon = c.run_command.ensures.canon;
  leaves = c.run_command.ensures.leaves;
  opened = c.run_command.ensures.opened;
  lasting = c.run_command.ensures.lasting;
  damage = c.run_command.ensures.damage;
  causes = c.run_command.ensures.causes;
})

pub returns-in-Err-Usage-clause-all : goal.returns-in-Err-Usage-clause-all
returns-in-Err-Usage-clause-all g c =
    usage_promises _ _ _ _ _ _ _ _ _ (c.in-Err-Usage.ensures.usage (ap (λ (f : WordsFault). Err f) c.in-Err-Usage.field-0-is))

pub returns-in-Err-Memory-clause-all : goal.returns-in-Err-Memory-clause-all
returns-in-Err-Memory-clause-all g c = memory_promises _ _ _ _ _ _ _ _ _

pub returns-in-Ok-clause-unread : goal.returns-in-Ok-clause-unread
returns-in-Ok-clause-unread g c = λ e. c.run_command.ensures.unread (subst (λ (o : Option Task). does (λ a. reads_input a) o ≡ false) c.in-Ok.ensures.words e)

pub returns-in-Ok-clause-untouched : goal.returns-in-Ok-clause-untouched
returns-in-Ok-clause-untouched g c = λ e.
    c.run_command.ensures.untouched (subst (λ (o : Option Task). does (λ a. is_session a) o ≡ false) c.in-Ok.ensures.words e)

pub returns-in-Ok-clause-headline : goal.returns-in-Ok-clause-headline
returns-in-Ok-clause-headline g c = λ told source sink run state stored answer.
    headline _ _ _ _ _ _ _ (returns-in-Ok-clause-all g c) told source sink run state stored answer

pub returns-in-Ok-clause-unasked : goal.returns-in-Ok-clause-unasked
returns-in-Ok-clause-unasked g c = λ none. is_none_and _ _ none c.in-Ok.ensures.words

pub returns-in-Err-Usage-clause-headline : goal.returns-in-Err-Usage-clause-headline
returns-in-Err-Usage-clause-headline g c = λ told source sink run state stored answer. absurd answer

pub returns-in-Err-Memory-clause-headline : goal.returns-in-Err-Memory-clause-headline
returns-in-Err-Memory-clause-headline g c = λ told source sink run state stored answer. absurd answer
