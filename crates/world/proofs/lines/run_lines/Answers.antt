-- Each line is told after those before it.
use Rattle.std.proofs.Common.{◌≡◌, Bool, ℕ, IsTrue, length, arith, refl, ◌∙◌, sym, Err, None, Some}
use Rattle.std.proofs.lemmas.Bool.Decides.{nat_tests}
use Rattle.run_status.proofs.Ending.{at_most_one, cause_from, cause_to, refused_more, same_stop}
use Rattle.run_status.proofs.Telling.{left_end, left_here, left_on, line_stops, stage_all, stage_here, stage_sent}
use Rattle.world.proofs.Listing.{no_lines, stop_evident}
use Rattle.world.proofs.lines.run_lines.Goals as goal

pub lines-init : goal.lines-init
lines-init g c = record {
  unread = record { input = refl; folder = refl; out = refl; still = refl };
  going = λ told s e. stage_here _ (g.A.Answers.tells s) _;
  stays = λ told s e. e;
  left = λ told s e t tells. left_here (g.A.Answers.tells s) _ _ _ t tells;
  files = λ told. refl;
  room = omega (arith, c.requires);
  counted = omega arith;
  folder_later = omega arith;
  sink_later = omega arith;
}

pub lines-preserved : goal.lines-preserved
lines-preserved g c = record {
  unread = record {
    input = c.run_line.ensures.unread.input ∙ c.lines.invariant.unread.input;
    folder = c.run_line.ensures.unread.folder ∙ c.lines.invariant.unread.folder;
    out = c.run_line.ensures.unread.out ∙ c.lines.invariant.unread.out;
    still = c.run_line.ensures.unread.still ∙ c.lines.invariant.unread.still;
  };
  going = λ told s e.
      stage_sent _ (g.A.Answers.tells s) _ _ _ _ c.in-Ok.is_refused (c.lines.invariant.going told s e) c.first_line.ensures.line refl
      (refused_more c.lines.refused c.in-Ok.is_refused _ _ refl c.from-refused.ensures)
      (c.in-Ok.ensures.runs.does told s (c.lines.invariant.stays told (Some s) e));
  stays = λ told s e. c.in-Ok.ensures.runs.stays told s (c.lines.invariant.stays told s e);
  left = λ told s e t tells.
      left_on (g.A.Answers.tells s) _ _ _ _ _ _ _ _ c.first_line.ensures.line (c.lines.invariant.left told s e t tells)
      (c.in-Ok.ensures.runs.reads told s (c.lines.invariant.stays told (Some s) e));
  files = λ told. c.in-Ok.ensures.runs.files told ∙ c.lines.invariant.files told;
  room = omega (arith, c.lines.invariant.room, c.first_line.ensures.shorter);
  counted = omega (arith, c.lines.invariant.counted, at_most_one _ _ c.from-refused.ensures);
  folder_later = omega (arith, c.lines.invariant.folder_later, c.in-Ok.ensures.runs.cause.folder_later);
  sink_later = omega (arith, c.lines.invariant.sink_later, c.in-Ok.ensures.runs.cause.sink_later);
}

pub returns-in-Err-clause-runs : goal.returns-in-Err-clause-runs
returns-in-Err-clause-runs g c = record {
  does = λ told s e.
      line_stops _ (g.A.Answers.tells s) _ _ _ _ _ c.in-Err.stop (c.lines.invariant.going told s e) c.first_line.ensures.line
      (c.in-Err.ensures.runs.does told s (c.lines.invariant.stays told (Some s) e));
  stays = λ told s e. c.in-Err.ensures.runs.stays told s (c.lines.invariant.stays told s e);
  files = λ told. c.in-Err.ensures.runs.files told ∙ c.lines.invariant.files told;
  reads = λ told s e t tells.
      left_end (g.A.Answers.tells s) _ _ _ _ _
      (left_on (g.A.Answers.tells s) _ _ _ _ _ _ _ _ c.first_line.ensures.line (c.lines.invariant.left told s e t tells)
      (c.in-Err.ensures.runs.reads told s (c.lines.invariant.stays told (Some s) e)));
  cause = cause_from _ _ _ _ _ _ _ c.lines.invariant.folder_later c.lines.invariant.sink_later
      (cause_to _ _ _ _ c.in-Err.stop c.in-Err.ensures.runs.cause);
  evident = stop_evident {X = ℕ} (IsTrue g.F.Pages.told × g.A.Answers.fits c.lines.it (g.F.Pages.files c.lines.world.folder.now) None)
      (IsTrue g.F.Pages.told × g.A.Answers.fits c.args.it.now (g.F.Pages.files c.args.world.now.folder.now) None)
      (g.F.Pages.files c.lines.world.folder.now) (g.F.Pages.files c.args.world.now.folder.now) (Err c.in-Err.stop)
      (λ p. (p.0, c.lines.invariant.stays p.0 None p.1)) (λ p. sym (c.lines.invariant.files p.0))
      (same_stop Bool ℕ _ c.in-Err.stop c.in-Err.ensures.runs.evident);
}

pub returns-clause-runs : goal.returns-clause-runs
returns-clause-runs g c = record {
  does = λ told s e.
      let none : length c.lines.rest.now ≡ 0 = grind (arith, nat_tests) in
      stage_all _ (g.A.Answers.tells s) _ _ _ (c.lines.invariant.going told s e) (no_lines _ none) (λ sink. refl);
  stays = c.lines.invariant.stays;
  files = c.lines.invariant.files;
  reads = λ told s e t tells. left_end (g.A.Answers.tells s) _ _ _ _ _ (c.lines.invariant.left told s e t tells);
  cause = record {
    folder_later = c.lines.invariant.folder_later;
    sink_later = c.lines.invariant.sink_later;
    folder = λ e. absurd cc;
    sink = λ e. absurd cc;
  };
  evident = tt;
}

pub returns-in-Err-clause-unread : goal.returns-in-Err-clause-unread
returns-in-Err-clause-unread g c = record {
  input = c.run_line.ensures.unread.input ∙ c.lines.invariant.unread.input;
  folder = c.run_line.ensures.unread.folder ∙ c.lines.invariant.unread.folder;
  out = c.run_line.ensures.unread.out ∙ c.lines.invariant.unread.out;
  still = c.run_line.ensures.unread.still ∙ c.lines.invariant.unread.still;
}

pub returns-clause-unread : goal.returns-clause-unread
returns-clause-unread g c = c.lines.invariant.unread
