-- What it did is told.
use Rattle.std.proofs.Common.{refl}
use Rattle.load_points.specs.Loaded.{load_answer}
use Rattle.commands.proofs.Opening.{opens_less}
use Rattle.bkd_top.proofs.Finished.{does_from, of_done, refused_same, whole_undamaged}
use Rattle.script_run.proofs.Shown.{status_since}
use Rattle.bkd_top.proofs.loads.load_file.Goals as goal

pub returns-clause-ends : goal.returns-clause-ends
returns-clause-ends g c = λ told state h.
    c.tell.ensures.ends
    _ _ _ (does_from (g.F.Pages.files c.load-done.new.folder) state _ _ _ _ c.load-done.result c.new-text.ensures.items c.as_slice.ensures.value
    (c.load-done.ensures.loads told state h)) refl

pub returns-clause-canon : goal.returns-clause-canon
returns-clause-canon g c = λ told state h answer. of_done c.load-done.result (c.tell.ensures.answer answer) (c.load-done.ensures.canon told state h)

pub returns-clause-damage : goal.returns-clause-damage
returns-clause-damage g c = record {
  never = λ told state h. c.tell.ensures.damaged
      (whole_undamaged (g.F.Pages.files c.load-done.new.folder) state (load_answer state c.args.file.now c.args.columns.now) c.new-text.result.items
      c.load-done.new.text.items c.load-done.result (c.load-done.ensures.loads told state h));
  evident = status_since _ _ _ _ (c.tell.ensures.evident g.F.Pages.told (g.F.Pages.files c.load-done.new.folder) c.load-done.ensures.evident);
}

pub returns-clause-folder_fault : goal.returns-clause-folder_fault
returns-clause-folder_fault g c = c.tell.ensures.folder_fault _ _ c.load-done.ensures.cause

pub returns-clause-whole : goal.returns-clause-whole
returns-clause-whole g c = λ told. record {
  unchanged = λ count e. refused_same _ c.load-done.result (c.tell.ensures.refused count e) (c.load-done.ensures.unchanged told);
  levels = λ state h answer. of_done c.load-done.result (c.tell.ensures.answer answer) (c.load-done.ensures.levels told state h);
  undone = c.tell.ensures.undone _ _ (c.load-done.ensures.undone told);
  lasts = c.load-done.ensures.lasts told;
}

pub returns-clause-lasting : goal.returns-clause-lasting
returns-clause-lasting g c = c.load-done.ensures.lasting

pub returns-clause-opened : goal.returns-clause-opened
returns-clause-opened g c = λ told. opens_less _ _ _ _ c.tell.ensures.answer (c.load-done.ensures.opened told)
