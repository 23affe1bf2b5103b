use Rattle.std.proofs.Common.{◌≡◌, ◌≤◌, ◌<◌, ◌+◌, ◌^◌, length, IsTrue, Option, Some}
use Rattle.script_lang.specs.Lines.{lines_of}
use Rattle.run_status.specs.Told.{Tellings, TellsLines, Told}
use Rattle.run_status.proofs.Telling.{Left}
use Rattle.world.specs.Ends.{Unread}
use Rattle.world.proofs.lines.run_lines.Given as goal

-- the lines so far were told, no more was read than leaves that they touch, and what is held fits the files
abbrev pub invariant-lines : goal.invariant-lines
invariant-lines g l = record {
  unread : Unread l.initial.world l.world;
  going : IsTrue g.F.Pages.told → (s : g.A.Answers.Scope) → g.A.Answers.fits l.initial.it (g.F.Pages.files l.initial.world.folder.now) (Some s)
      → Tellings (IsTrue g.K.Sink.told) (g.A.Answers.tells s)
      (record { line = l.initial.number; refused = l.initial.refused; rest = lines_of l.initial.rest; written = g.K.Sink.written l.initial.world.out.now })
      (record { line = l.number; refused = l.refused; rest = lines_of l.rest; written = g.K.Sink.written l.world.out.now });
  stays : IsTrue g.F.Pages.told → (s : Option g.A.Answers.Scope) → g.A.Answers.fits l.initial.it (g.F.Pages.files l.initial.world.folder.now) s
      → g.A.Answers.fits l.it (g.F.Pages.files l.world.folder.now) s;
  left : IsTrue g.F.Pages.told → (s : g.A.Answers.Scope) → g.A.Answers.fits l.initial.it (g.F.Pages.files l.initial.world.folder.now) (Some s)
      → (t : Told) → TellsLines (g.A.Answers.tells s) l.initial.number (lines_of l.initial.rest) t
      → Left (g.A.Answers.tells s) l.number (lines_of l.rest) (g.F.Pages.reads l.initial.world.folder.now)
      (g.F.Pages.reads l.world.folder.now) t.touched;
  files : IsTrue g.F.Pages.told → g.F.Pages.files l.world.folder.now ≡ g.F.Pages.files l.initial.world.folder.now;
  room : l.number + length l.rest < 2 ^ 64;
  counted : l.refused ≤ l.number;
  folder_later : g.F.Pages.faults l.initial.world.folder.now ≤ g.F.Pages.faults l.world.folder.now;
  sink_later : g.K.Sink.faults l.initial.world.out.now ≤ g.K.Sink.faults l.world.out.now;
}

abbrev pub decreases-lines : goal.decreases-lines
decreases-lines g l = length l.rest
