use Rattle.std.proofs.Common.{◌≡◌, ◌≤◌, ◌+◌, ◌*◌, ◌++◌, ℕ, take}
use Rattle.std.specs.Prelude.{IsTrue}
use Rattle.page_cache.specs.Cache.{Agrees, KeepsPages, MarksGo}
use Rattle.documents.specs.Entries.{numbers_found}
use Rattle.segment_view.specs.LiveSegments.{Contents, AreRead, heads_of, ids_of, live_in_parts}
use Rattle.segment_view.specs.Costs.{leaves_in, AreTested, AreTouched, AreTouchedKept}
use Rattle.segment_view.specs.Calm.{IsCalm}
use Rattle.segment_view.proofs.visiting.visit_segments.Given as goal

abbrev pub invariant-loop-i : goal.invariant-loop-i
invariant-loop-i g l = record {
  calm : IsCalm g.F.Pages.told (g.F.Pages.files l.initial.folder) (g.F.Pages.files l.folder) l.initial.cache l.cache (ids_of l.segments);
  marks : MarksGo l.initial.cache l.cache;
  faults : g.F.Pages.faults l.folder ≡ g.F.Pages.faults l.initial.folder;
  tested : AreTested g.row.D (g.S.Shape.crosses l.initial.shape) (heads_of (take l.i l.segments)) l.all.tested;
  touched : AreTouched g.row.D (g.S.Shape.has l.initial.shape) (g.S.Shape.crosses l.initial.shape) (heads_of (take l.i l.segments)) l.all.touched;
  few_tested : l.all.tested ≤ l.i * (4000 * 8388608);
  few_touched : l.all.touched ≤ l.i * 8388608;
  has : g.S.Shape.has l.shape ≡ g.S.Shape.has l.initial.shape;
  crosses : g.S.Shape.crosses l.shape ≡ g.S.Shape.crosses l.initial.shape;
  tests : (n : ℕ) → AreTested g.row.D (g.S.Shape.crosses l.initial.shape) (heads_of (take l.i l.segments)) n
      → g.S.Shape.tests l.shape ≤ g.S.Shape.tests l.initial.shape + n;
  compares : g.S.Shape.compares l.shape ≤ g.S.Shape.compares l.initial.shape + 2 * leaves_in (heads_of (take l.i l.segments));
  reads : (n : ℕ) → AreTouched g.row.D (g.S.Shape.has l.initial.shape) (g.S.Shape.crosses l.initial.shape) (heads_of (take l.i l.segments)) n
      → g.F.Pages.reads l.folder ≤ g.F.Pages.reads l.initial.folder + n;
  kept : AreTouchedKept g.row.D l.initial.cache (g.S.Shape.has l.initial.shape) (g.S.Shape.crosses l.initial.shape) l.segments
      → (g.F.Pages.reads l.folder ≡ g.F.Pages.reads l.initial.folder) × KeepsPages l.initial.cache l.cache;
  found : IsTrue g.F.Pages.told → Agrees (g.F.Pages.files l.initial.folder) l.initial.cache → (c : Contents)
      → AreRead g.row.D (g.F.Pages.files l.initial.folder) c l.segments
      → l.hits.items ≡ l.initial.hits.items ++ numbers_found (g.S.Shape.has l.initial.shape) (live_in_parts c (take l.i l.segments));
}
