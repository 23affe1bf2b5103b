use Rattle.std.proofs.Common.{◌≡◌, ◌≤◌, ◌+◌, List, take, drop}
use Rattle.std.specs.Prelude.{IsTrue}
use Rattle.std.specs.List.{AllZip}
use Rattle.live_bits.specs.LiveSet.{LiveSet}
use Rattle.segment_file.specs.Heads.{Head}
use Rattle.stored_index.specs.Opening.{segments_pages}
use Rattle.stored_index.specs.Stored.{HaveHeads, HaveLive}
use Rattle.index_opening.specs.Opened.{IsOpened}
use Rattle.index_opening.proofs.opening.open_all.Given as goal

abbrev pub invariant-loop-s : goal.invariant-loop-s
invariant-loop-s g l = record {
  opened : AllZip (IsOpened (IsTrue g.F.Pages.told) (g.F.Pages.files l.initial.folder) l.c) (take l.s-index l.c.listed) l.segments;
  files : IsTrue g.F.Pages.told → g.F.Pages.files l.folder ≡ g.F.Pages.files l.initial.folder;
  faults : g.F.Pages.faults l.folder ≡ g.F.Pages.faults l.initial.folder;
  reads : IsTrue g.F.Pages.told → (heads : List Head) (sets : List LiveSet) → HaveHeads (g.F.Pages.files l.initial.folder) l.c heads
      → HaveLive (g.F.Pages.files l.initial.folder) l.c sets
      → g.F.Pages.reads l.folder + segments_pages (g.F.Pages.files l.initial.folder) (drop l.s-index l.c.listed) (drop l.s-index heads)
      ≤ g.F.Pages.reads l.initial.folder + segments_pages (g.F.Pages.files l.initial.folder) l.c.listed heads;
}
