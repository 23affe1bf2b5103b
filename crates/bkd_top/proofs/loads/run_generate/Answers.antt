-- What it did is told.
use Rattle.std.proofs.Common.{refl}
use Rattle.drawn_points.specs.Generated.{generate_answer}
use Rattle.bkd_top.proofs.Finished.{does_from, of_done, refused_same, whole_undamaged}
use Rattle.script_run.proofs.Shown.{status_since}
use Rattle.bkd_top.proofs.loads.run_generate.Goals as goal

pub returns-clause-ends : goal.returns-clause-ends
returns-clause-ends g c = λ told state h input.
    c.tell.ensures.ends
    _ _ _ (does_from (g.F.Pages.files c.generate-done.new.folder) state _ _ _ _ c.generate-done.result c.new-text.ensures.items c.as_slice.ensures.value
    (c.generate-done.ensures.generates told state h)) refl

pub returns-clause-canon : goal.returns-clause-canon
returns-clause-canon g c = λ told state h answer. of_done c.generate-done.result (c.tell.ensures.answer answer) (c.generate-done.ensures.canon told state h)

pub returns-clause-damage : goal.returns-clause-damage
returns-clause-damage g c = record {
  never = λ told state h. c.tell.ensures.damaged
      (whole_undamaged (g.F.Pages.files c.generate-done.new.folder) state (generate_answer state c.args.docs c.args.seed) c.new-text.result.items
      c.generate-done.new.text.items c.generate-done.result (c.generate-done.ensures.generates told state h));
  evident =
      status_since _ _ _ _ (c.tell.ensures.evident g.F.Pages.told (g.F.Pages.files c.generate-done.new.folder) c.generate-done.ensures.evident);
}

pub returns-clause-folder_fault : goal.returns-clause-folder_fault
returns-clause-folder_fault g c = c.tell.ensures.folder_fault _ _ c.generate-done.ensures.cause

pub returns-clause-whole : goal.returns-clause-whole
returns-clause-whole g c = λ told. record {
  unchanged = λ count e. refused_same _ c.generate-done.result (c.tell.ensures.refused count e) (c.generate-done.ensures.unchanged told);
  levels = λ state h answer. of_done c.generate-done.result (c.tell.ensures.answer answer) (c.generate-done.ensures.levels told state h);
  undone = c.tell.ensures.undone _ _ (c.generate-done.ensures.undone told);
  lasts = c.generate-done.ensures.lasts told;
}

pub returns-clause-lasting : goal.returns-clause-lasting
returns-clause-lasting g c = c.generate-done.ensures.lasting

pub returns-clause-opened : goal.returns-clause-opened
returns-clause-opened g c = λ told.
    let made = c.generate-done.ensures.opened told in
    record { reads = λ a. made.reads (c.tell.ensures.answer a); stays = made.stays }
