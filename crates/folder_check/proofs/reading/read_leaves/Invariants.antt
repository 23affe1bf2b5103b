use Rattle.std.proofs.Common.{◌≡◌, ◌≤◌, ◌+◌, ◌++◌, List, length, take, true}
use Rattle.std.specs.Prelude.{IsTrue, All}
use Rattle.std.specs.List.{AllZip, sum_by}
use Rattle.point_codec.specs.Points.{Item}
use Rattle.point_codec.specs.Seen.{items_of}
use Rattle.page_cache.specs.Cache.{Agrees}
use Rattle.segment_view.specs.LiveSegments.{heads_of}
use Rattle.segment_view.specs.Held.{AreHeld, HasOwnHead}
use Rattle.folder_check.specs.Checked.{leaf_pages}
use Rattle.folder_check.specs.Found.{IsFinding}
use Rattle.folder_check.proofs.reading.read_leaves.Given as goal

abbrev pub invariant-loop-i : goal.invariant-loop-i
invariant-loop-i g l = record {
  files : IsTrue g.F.Pages.told → g.F.Pages.files l.folder ≡ g.F.Pages.files l.initial.folder;
  agrees : IsTrue g.F.Pages.told → Agrees (g.F.Pages.files l.initial.folder) l.cache;
  faults : g.F.Pages.faults l.folder ≡ g.F.Pages.faults l.initial.folder;
  reads : IsTrue g.F.Pages.told → All (HasOwnHead g.row.D (g.F.Pages.files l.initial.folder)) l.segments
      → g.F.Pages.reads l.folder ≤ g.F.Pages.reads l.initial.folder + sum_by (leaf_pages (g.F.Pages.files l.initial.folder)) (heads_of (take l.i l.segments));
  kept : l.keeps ≡ true → IsTrue g.F.Pages.told → All (HasOwnHead g.row.D (g.F.Pages.files l.initial.folder)) l.segments
      → (more : List Item) × (items_of l.kept.items ≡ items_of l.initial.kept.items ++ more)
      × AreHeld g.row.D (g.F.Pages.files l.initial.folder) (take l.i l.segments) more;
  each : length l.findings.items ≡ l.i;
  found : IsTrue g.F.Pages.told → All (HasOwnHead g.row.D (g.F.Pages.files l.initial.folder)) l.segments
      → AllZip (IsFinding g.row.D (g.F.Pages.files l.initial.folder)) (take l.i l.segments) l.findings.items;
}
