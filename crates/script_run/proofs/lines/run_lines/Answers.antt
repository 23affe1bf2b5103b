-- The lines are those of a new reader over the source, or there is none.
use Rattle.std.proofs.Common.{IsTrue, inl, refl, arith}
use Rattle.std.proofs.lemmas.Bool.{false≢true}
use Rattle.commands.proofs.Opening.{stays_same}
use Rattle.script_lang.specs.Lines.{lines_of}
use Rattle.stored_index.proofs.KeptFiles.{kept_itself}
use Rattle.index_core.proofs.Brought.{commit_itself}
use Rattle.index_core.proofs.LosingNone.{keeps_same}
use Rattle.script_run.specs.Progress.{start}
use Rattle.script_run.specs.Taking.{IsTakenOutOf}
use Rattle.script_run.proofs.Going.{stops_here}
use Rattle.script_run.proofs.Halting.{memory_cause, no_source}
use Rattle.script_run.proofs.Reading.{new_knows, new_reader}
use Rattle.script_run.proofs.Starting.{leads_none}
use Rattle.script_run.proofs.lines.run_lines.Goals as goal
use Rattle.script_run.specs.Languages.{meaning}

pub returns-in-Ok-clause-does : goal.returns-in-Ok-clause-does
returns-in-Ok-clause-does g c = λ told. new_reader _ c.in-Ok.reader (g.S.Source.left c.args.input.now) _ c.in-Ok.ensures (c.run_read.ensures.does told)

pub returns-in-Ok-clause-read : goal.returns-in-Ok-clause-read
returns-in-Ok-clause-read g c = λ source. c.run_read.ensures.read source (new_knows c.in-Ok.reader (g.S.Source.left c.args.input.now) c.in-Ok.ensures)

pub returns-in-Ok-clause-keeps : goal.returns-in-Ok-clause-keeps
returns-in-Ok-clause-keeps g c = λ told. new_reader _ c.in-Ok.reader (g.S.Source.left c.args.input.now) _ c.in-Ok.ensures (c.run_read.ensures.keeps told)

pub returns-in-Err-clause-does : goal.returns-in-Err-clause-does
returns-in-Err-clause-does g c = λ told. (
  lines_of (g.S.Source.left c.args.input.now),
  λ source. refl,
  λ state h. (
    stops_here {told = IsTrue g.K.Sink.told} (meaning c.args.work.now.language)
        (start state (lines_of (g.S.Source.left c.args.input.now)) (g.K.Sink.written c.args.out.now)) _ _ (λ _. refl) (inl h),
    leads_none c.args.work.now.language state _ _ _ _ _ _ refl refl,
  ),
)

pub returns-in-Err-clause-cause : goal.returns-in-Err-clause-cause
returns-in-Err-clause-cause g c = memory_cause _ _ _ _ (omega arith) (omega arith)

pub returns-in-Err-clause-source : goal.returns-in-Err-clause-source
returns-in-Err-clause-source g c = no_source _ _ _ (omega arith) (λ e. cc)

pub returns-in-Err-clause-keeps : goal.returns-in-Err-clause-keeps
returns-in-Err-clause-keeps g c = λ told. (
  lines_of (g.S.Source.left c.args.input.now),
  λ source. refl,
  record {
    undone = λ quiet. inl (kept_itself _);
    lasts = keeps_same (IsTakenOutOf c.args.work.now.language (g.F.Pages.files c.args.folder.now) (lines_of (g.S.Source.left c.args.input.now))) _ _
        (kept_itself _);
  },
)

pub returns-in-Ok-clause-lasting : goal.returns-in-Ok-clause-lasting
returns-in-Ok-clause-lasting g c = c.run_read.ensures.lasting

pub returns-in-Err-clause-lasting : goal.returns-in-Err-clause-lasting
returns-in-Err-clause-lasting g c = λ told. commit_itself _

pub returns-in-Ok-clause-opened : goal.returns-in-Ok-clause-opened
returns-in-Ok-clause-opened g c = c.run_read.ensures.opened

pub returns-in-Err-clause-opened : goal.returns-in-Err-clause-opened
returns-in-Err-clause-opened g c = λ told. stays_same _ _ (λ ok. false≢true ok)
