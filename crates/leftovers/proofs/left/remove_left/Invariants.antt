use Rattle.std.proofs.Common.{◌≡◌, None, take}
use Rattle.std.specs.Prelude.{IsTrue, All}
use Rattle.outer_io.specs.declared.file_name.FileName.{FileName}
use Rattle.leftovers.specs.Left.{IsLeft, TakesAway}
use Rattle.leftovers.proofs.left.remove_left.Given as goal

-- what was left of the names so far is gone
abbrev pub invariant-loop-name : goal.invariant-loop-name
invariant-loop-name g l = record {
  takes : IsTrue g.F.Pages.told → TakesAway l.commit (g.F.Pages.files l.initial.folder) (g.F.Pages.files l.folder);
  gone : IsTrue g.F.Pages.told → All (λ (name : FileName). IsLeft l.commit name → g.F.Pages.files l.folder name ≡ None) (take l.name-index l.names);
  faults : g.F.Pages.faults l.folder ≡ g.F.Pages.faults l.initial.folder;
}
