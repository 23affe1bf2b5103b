use Rattle.std.proofs.Common.{◌≡◌, ◌≢◌, None, take}
use Rattle.std.specs.Prelude.{IsTrue, All, AllPairs}
use Rattle.outer_io.specs.declared.file_name.FileName.{FileName}
use Rattle.clean_folder.specs.Cleaned.{IsUnlisted, TakesUnlisted, CountsRemoved}
use Rattle.clean_folder.proofs.removing.take_unlisted.Given as goal

-- what isn't listed of the names so far is gone, and was counted
abbrev pub invariant-loop-name : goal.invariant-loop-name
invariant-loop-name g l = record {
  takes : IsTrue g.F.Pages.told → TakesUnlisted l.commit (g.F.Pages.files l.initial.folder) (g.F.Pages.files l.folder);
  gone : IsTrue g.F.Pages.told
      → All (λ (name : FileName). IsUnlisted l.commit name → g.F.Pages.files l.folder name ≡ None) (take l.name-index l.names);
  counts : IsTrue g.F.Pages.told → AllPairs (λ (a b : FileName). a ≢ b) l.names
      → CountsRemoved l.names (g.F.Pages.files l.initial.folder) (g.F.Pages.files l.folder) l.removed.files l.removed.bytes;
  faults : g.F.Pages.faults l.folder ≡ g.F.Pages.faults l.initial.folder;
}
