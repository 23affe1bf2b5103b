use Rattle.std.proofs.Common.{◌≡◌, ◌≤◌, ◌+◌, ◌⊎◌, ℕ, List, length}
use Rattle.std.specs.Prelude.{IsTrue, All, sum_by}
use Rattle.point_codec.specs.declared.entries.Near.{Near}
use Rattle.inner_pack.specs.Trees.{IndexTree}
use Rattle.page_cache.specs.Cache.{KeepsFile, KeepsPages, Agrees}
use Rattle.documents.specs.NearestEntries.{IsNearest}
use Rattle.nearest_query.specs.Dead.{MarksDead}
use Rattle.nearest_query.specs.Segments.{AreLeavesKept, HasId, bound_of}
use Rattle.nearest_query.specs.Fronts.{sum_below, work}
use Rattle.nearest_query.specs.Search.{World, AreInside, IsOver, IsNodeBelow, IsSought, one_within}
use Rattle.nearest_query.proofs.search.search.Given as goal

abbrev pub invariant-loop-next : goal.invariant-loop-next
invariant-loop-next g l = record {
  room : l.found.many.room ≡ l.initial.found.many.room;
  files : IsTrue g.F.Pages.told → g.F.Pages.files l.folder ≡ g.F.Pages.files l.initial.folder;
  faults : g.F.Pages.faults l.folder ≡ g.F.Pages.faults l.initial.folder;
  others : (i : ℕ) → KeepsFile l.cache i → KeepsFile l.initial.cache i ⊎ HasId l.heads i;
  agrees : IsTrue g.F.Pages.told → Agrees (g.F.Pages.files l.initial.folder) l.initial.cache → Agrees (g.F.Pages.files l.initial.folder) l.cache;
  marks : MarksDead g.row.D l.watched l.heads l.lives l.initial.cache l.cache;
  inside : AreInside (length l.heads) l.taken l.frontier;
  parts : (trees : ℕ → IndexTree) → All (IsNodeBelow l.heads trees l.initial.frontier.nodes) l.initial.frontier.waiting
      → All (IsNodeBelow l.heads trees l.frontier.nodes) l.frontier.waiting;
  kept : (trees : ℕ → IndexTree) → All (IsNodeBelow l.heads trees l.initial.frontier.nodes) l.initial.frontier.waiting
      → AreLeavesKept l.initial.cache l.heads trees
      → (g.F.Pages.reads l.folder ≡ g.F.Pages.reads l.initial.folder) × KeepsPages l.initial.cache l.cache;
  sought : IsTrue g.F.Pages.told → Agrees (g.F.Pages.files l.initial.folder) l.initial.cache → (w : World) (all : List Near)
      → IsOver w l.at.c l.heads l.lives (g.F.Pages.files l.initial.folder)
      → IsSought g.row.D w all l.initial.frontier.waiting l.initial.frontier.nodes l.initial.found
      → IsSought g.row.D w all l.frontier.waiting l.frontier.nodes l.found;
  reads : IsTrue g.F.Pages.told → Agrees (g.F.Pages.files l.initial.folder) l.initial.cache → (w : World) (all nearest : List Near)
      → IsOver w l.at.c l.heads l.lives (g.F.Pages.files l.initial.folder)
      → IsSought g.row.D w all l.initial.frontier.waiting l.initial.frontier.nodes l.initial.found → IsNearest l.initial.found.many.room all nearest
      → g.F.Pages.reads l.folder + sum_by (sum_below (one_within w (bound_of l.initial.found.many.room nearest))) l.frontier.waiting
      ≤ g.F.Pages.reads l.initial.folder + sum_by (sum_below (one_within w (bound_of l.initial.found.many.room nearest))) l.initial.frontier.waiting;
  touched : IsTrue g.F.Pages.told → Agrees (g.F.Pages.files l.initial.folder) l.initial.cache → (w : World) (all nearest : List Near)
      → IsOver w l.at.c l.heads l.lives (g.F.Pages.files l.initial.folder)
      → IsSought g.row.D w all l.initial.frontier.waiting l.initial.frontier.nodes l.initial.found → IsNearest l.initial.found.many.room all nearest
      → l.taken + sum_by (sum_below (one_within w (bound_of l.initial.found.many.room nearest))) l.frontier.waiting
      ≡ sum_by (sum_below (one_within w (bound_of l.initial.found.many.room nearest))) l.initial.frontier.waiting;
}

abbrev pub decreases-loop-next : goal.decreases-loop-next
decreases-loop-next g l = sum_by work l.frontier.waiting
