use Rattle.std.proofs.Common.{◌≡◌, ◌<◌, ◌≤◌, ◌+◌, ◌^◌, true, take}
use Rattle.std.specs.Prelude.{IsTrue, All}
use Rattle.point_codec.specs.Seen.{items_of}
use Rattle.page_cache.specs.Cache.{Agrees}
use Rattle.segment_view.specs.LiveSegments.{Contents, AreRead, heads_of, ids_of, live_in_parts, parts_among, has_live}
use Rattle.segment_view.specs.Held.{HasOwnHead, AreHeld}
use Rattle.segment_view.specs.Costs.{leaves_in}
use Rattle.segment_view.specs.Calm.{IsCalm}
use Rattle.segment_view.proofs.gathering.gather.Given as goal

abbrev pub invariant-loop-i : goal.invariant-loop-i
invariant-loop-i g l = record {
  calm : IsCalm g.F.Pages.told (g.F.Pages.files l.initial.folder) (g.F.Pages.files l.folder) l.initial.cache l.cache (ids_of (parts_among l.ids l.segments));
  faults : g.F.Pages.faults l.folder ≡ g.F.Pages.faults l.initial.folder;
  live : All (λ x. has_live x.doc (parts_among l.ids l.segments) ≡ true) (items_of l.entries.items);
  numbers : All (λ e. e.doc < 2 ^ 24) l.entries.items;
  reads : g.F.Pages.reads l.folder ≤ g.F.Pages.reads l.initial.folder + leaves_in (heads_of (parts_among l.ids (take l.i l.segments)));
  held : IsTrue g.F.Pages.told → Agrees (g.F.Pages.files l.initial.folder) l.initial.cache
      → All (HasOwnHead g.row.D (g.F.Pages.files l.initial.folder)) l.segments
      → AreHeld g.row.D (g.F.Pages.files l.initial.folder) (parts_among l.ids (take l.i l.segments)) (items_of l.entries.items);
  entries : IsTrue g.F.Pages.told → Agrees (g.F.Pages.files l.initial.folder) l.initial.cache → (c : Contents)
      → AreRead g.row.D (g.F.Pages.files l.initial.folder) c l.segments
      → items_of l.entries.items ≡ live_in_parts c (parts_among l.ids (take l.i l.segments));
}
