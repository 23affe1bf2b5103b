use Rattle.std.proofs.Common.{◌≡◌, ◌-◌, ◌^◌, min, take}
use Rattle.std.specs.Prelude.{IsTrue}
use Rattle.std.specs.List.{sum_by}
use Rattle.folder_check.specs.Informed.{listed_bytes}
use Rattle.folder_check.proofs.informing.listed_bytes.Given as goal

abbrev pub invariant-loop-s : goal.invariant-loop-s
invariant-loop-s g l = record {
  files : IsTrue g.F.Pages.told → g.F.Pages.files l.folder ≡ g.F.Pages.files l.initial.folder;
  reads : g.F.Pages.reads l.folder ≡ g.F.Pages.reads l.initial.folder;
  faults : g.F.Pages.faults l.folder ≡ g.F.Pages.faults l.initial.folder;
  bytes : IsTrue g.F.Pages.told → l.bytes ≡ min (sum_by (listed_bytes (g.F.Pages.files l.initial.folder)) (take l.s-index l.listed)) (2 ^ 64 - 1);
}
