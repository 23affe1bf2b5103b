use Rattle.std.proofs.Common.{◌≡◌, ◌≤◌, ◌+◌, ◌*◌, take}
use Rattle.std.specs.Prelude.{IsTrue}
use Rattle.outer_io.specs.Files.{bytes_of}
use Rattle.batch_run.proofs.copying.read_file.Given as goal

-- the pages so far were read, and nothing failed
abbrev pub invariant-loop-page : goal.invariant-loop-page
invariant-loop-page g l = record {
  read : IsTrue g.F.Pages.told → l.bytes.items ≡ take (4096 * l.page) (bytes_of (g.F.Pages.files l.initial.folder l.name));
  files : IsTrue g.F.Pages.told → g.F.Pages.files l.folder ≡ g.F.Pages.files l.initial.folder;
  reads : g.F.Pages.reads l.folder ≤ g.F.Pages.reads l.initial.folder + l.page;
  faults : g.F.Pages.faults l.folder ≡ g.F.Pages.faults l.initial.folder;
}
