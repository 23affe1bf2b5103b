use Rattle.std.proofs.Common.{◌≡◌, ◌≤◌, ◌++◌, ℕ, List, IsTrue}
use Rattle.script_run.specs.Progress.{Progress}
use Rattle.script_run.proofs.Lined.{place_off}
use Rattle.script_run.proofs.Reading.{HasRead}
use Rattle.script_run.proofs.Starting.{Nears}
use Rattle.script_run.proofs.lines.run_first.Given as goal
use Rattle.script_run.specs.Languages.{meaning}

-- the lines so far were done as the script says, and the folder was left alone
abbrev pub invariant-lines : goal.invariant-lines
invariant-lines g l = record {
  so_far : (has : HasRead (IsTrue g.S.Source.told) l.initial.reader (g.S.Source.left l.initial.input) l.reader (g.S.Source.left l.input))
      × ((more : List (List ℕ))
      → Progress (meaning l.fn.work.language) (IsTrue g.K.Sink.told) (place_off 1 0 (has.lines ++ more) (g.K.Sink.written l.initial.out))
      (place_off l.line l.refused more (g.K.Sink.written l.out))
      × Nears l.fn.work.language (has.lines ++ more) l.line more);
  counted : l.refused ≤ l.line;
  folder : l.folder ≡ l.initial.folder;
  sink_later : g.K.Sink.faults l.initial.out ≤ g.K.Sink.faults l.out;
  source_later : g.S.Source.faults l.initial.input ≤ g.S.Source.faults l.input;
}
