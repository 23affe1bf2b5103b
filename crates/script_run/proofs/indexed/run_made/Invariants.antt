use Rattle.std.proofs.Common.{◌≤◌, ◌++◌, ℕ, List, IsTrue}
use Rattle.index_core.specs.Brought.{KeepsCommit}
use Rattle.index_core.specs.Lasting.{LosesNone}
use Rattle.index_core.specs.Carried.{Carries}
use Rattle.index_core.specs.Sessions.{Trusts}
use Rattle.index_model.specs.State.{Index, State}
use Rattle.script_run.specs.LineAnswers.{IsSessionOf}
use Rattle.script_run.specs.Taking.{IsTakenOut}
use Rattle.script_run.proofs.Reading.{Going, HasRead, Quiet}
use Rattle.script_run.proofs.indexed.run_made.Given as goal

-- the lines so far were done as the script says, what was kept is or a whole commit took its place, no document went that
-- they don't take out, the session is trusted with the files as before them, and its segments are carried
abbrev pub invariant-lines : goal.invariant-lines
invariant-lines g l = record {
  so_far : (has : HasRead (IsTrue g.S.Source.told) l.initial.reader (g.S.Source.left l.initial.input) l.reader (g.S.Source.left l.input))
      × (IsTrue g.F.Pages.told → (i : Index) → (stored : State) → IsSessionOf g.row.D (g.F.Pages.files l.initial.folder) l.initial.session i stored
      → (more : List (List ℕ))
      → Going l.fn.work.language (IsTrue g.K.Sink.told) g.row.D l.fn.tally.line l.fn.tally.refused i stored (g.K.Sink.written l.initial.out)
      (record { files = g.F.Pages.files l.initial.folder; session = l.initial.session; reads = g.F.Pages.reads l.initial.folder }) (has.lines ++ more)
      (record { files = g.F.Pages.files l.folder; session = l.session; reads = g.F.Pages.reads l.folder }) l.line l.refused more (g.K.Sink.written l.out))
      × (IsTrue g.F.Pages.told → Trusts g.row.D (g.F.Pages.files l.initial.folder) l.initial.session
      → Quiet l.fn.work.language g.row.D has.lines (g.F.Pages.files l.initial.folder) (g.F.Pages.files l.folder))
      × (IsTrue g.F.Pages.told → Trusts g.row.D (g.F.Pages.files l.initial.folder) l.initial.session
      → KeepsCommit (g.F.Pages.files l.initial.folder) (g.F.Pages.files l.folder))
      × (IsTrue g.F.Pages.told → Trusts g.row.D (g.F.Pages.files l.initial.folder) l.initial.session
      → LosesNone g.row.D (IsTakenOut l.fn.work.language g.row.D has.lines) (g.F.Pages.files l.initial.folder) (g.F.Pages.files l.folder)
      l.initial.session.set l.session.set);
  trusts : IsTrue g.F.Pages.told → Trusts g.row.D (g.F.Pages.files l.initial.folder) l.initial.session → Trusts g.row.D (g.F.Pages.files l.folder) l.session;
  carries : IsTrue g.F.Pages.told → Carries (g.F.Pages.files l.initial.folder) (g.F.Pages.files l.folder) l.initial.session.set l.session.set;
  counted : l.refused ≤ l.line;
  folder_later : g.F.Pages.faults l.initial.folder ≤ g.F.Pages.faults l.folder;
  sink_later : g.K.Sink.faults l.initial.out ≤ g.K.Sink.faults l.out;
  source_later : g.S.Source.faults l.initial.input ≤ g.S.Source.faults l.input;
}
