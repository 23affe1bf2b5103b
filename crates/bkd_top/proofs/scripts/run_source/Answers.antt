-- The status says how the lines ended.
use Rattle.std.proofs.Common.{sym, subst, ◌∙◌}
use Rattle.run_status.specs.Ends.{DoesNothing, IsAnswer, IsDamaged}
use Rattle.commands.proofs.Opening.{opens_less}
use Rattle.script_run.proofs.Statuses.{never_refuses, read_folder, read_script, read_shows, read_sink, read_source, session_ends, session_undamaged, when_read}
use Rattle.script_run.proofs.Statuses.{answered_ok, with_lines}
use Rattle.script_run.specs.Languages.{meaning}
use Rattle.bkd_top.proofs.scripts.run_source.Goals as goal

pub returns-clause-never : goal.returns-clause-never
returns-clause-never g c = λ e. never_refuses c.run_lines.result (rw c.status_of_lines.ensures at e)

pub returns-clause-ends : goal.returns-clause-ends
returns-clause-ends g c = λ source told state h.
    rw c.status_of_lines.ensures
    (session_ends (meaning c.args.work.now.language) _ _ _ _ c.run_lines.result (with_lines _ _ _ source (c.run_lines.ensures.does told) state h).0)

pub returns-clause-lines : goal.returns-clause-lines
returns-clause-lines g c = λ source a. when_read c.run_lines.result (subst IsAnswer c.status_of_lines.ensures a) (c.run_lines.ensures.read source)

pub returns-clause-canon : goal.returns-clause-canon
returns-clause-canon g c = λ told state h a.
    when_read c.run_lines.result (subst IsAnswer c.status_of_lines.ensures a) ((c.run_lines.ensures.does told).2 state h).1.canon

pub returns-clause-costs : goal.returns-clause-costs
returns-clause-costs g c = λ source told.
    record {
      levels = λ state h asks a.
          when_read c.run_lines.result (subst IsAnswer c.status_of_lines.ensures a)
          ((with_lines _ _ _ source (c.run_lines.ensures.does told) state h).1.levels asks);
      still = λ state h asks. (with_lines _ _ _ source (c.run_lines.ensures.does told) state h).1.still asks;
      reads = λ s scope. (with_lines _ _ _ source (c.run_lines.ensures.does told) s.state scope.stored).1.reads s scope;
      undone = λ quiet.
          rw c.status_of_lines.ensures (read_script _ _ c.run_lines.result ((with_lines _ _ _ source (c.run_lines.ensures.keeps told)).undone quiet));
      lasts = (with_lines _ _ _ source (c.run_lines.ensures.keeps told)).lasts;
    }

pub returns-clause-damage : goal.returns-clause-damage
returns-clause-damage g c = record {
  never = λ told state h d.
      session_undamaged (meaning c.args.work.now.language) _ _ _ _ c.run_lines.result ((c.run_lines.ensures.does told).2 state h).0
      (subst IsDamaged c.status_of_lines.ensures d);
  evident = rw c.status_of_lines.ensures (read_shows _ c.run_lines.result c.run_lines.ensures.evident);
}

pub returns-clause-causes : goal.returns-clause-causes
returns-clause-causes g c = record {
  source = λ e. c.run_lines.ensures.source.failed (read_source c.run_lines.result (subst DoesNothing (sym (sym c.status_of_lines.ensures ∙ e)) tt));
  folder = λ e. read_folder _ _ _ _ c.run_lines.result c.run_lines.ensures.cause (sym c.status_of_lines.ensures ∙ e);
  sink = λ e. read_sink _ _ _ _ c.run_lines.result c.run_lines.ensures.cause (sym c.status_of_lines.ensures ∙ e);
}

pub returns-clause-lasting : goal.returns-clause-lasting
returns-clause-lasting g c = c.run_lines.ensures.lasting

pub returns-clause-opened : goal.returns-clause-opened
returns-clause-opened g c = λ told.
    opens_less _ _ _ _ (λ a. answered_ok c.run_lines.result (subst IsAnswer c.status_of_lines.ensures a)) (c.run_lines.ensures.opened told)
