use Rattle.std.proofs.Common.{◌≡◌, IsTrue, length}
use Rattle.segment_set.specs.Sets.{IsSettled, IsWell}
use Rattle.segment_set.specs.Merged.{KeepsEntries, Rearranges}
use Rattle.segment_set.specs.Settles.{Settles, moment}
use Rattle.segment_set.specs.Faithful.{IsFaithful}
use Rattle.segment_set.specs.Losing.{KeepsCounts}
use Rattle.segment_set.proofs.set.SegmentSet.merge_settle.Given as goal

abbrev pub invariant-loop-ids : goal.invariant-loop-ids
invariant-loop-ids g l = record {
  moves : IsWell g.row.D l.self
      → Rearranges g.row.D (IsTrue g.F.Pages.told) (g.F.Pages.files l.initial.folder) (g.F.Pages.files l.folder) l.initial.self l.self;
  entries : KeepsEntries g.row.D (IsTrue g.F.Pages.told) (g.F.Pages.files l.initial.folder) (g.F.Pages.files l.folder) l.initial.self l.self;
  settles : Settles g.row.D (IsTrue g.F.Pages.told) (moment (g.F.Pages.files l.initial.folder) l.initial.self) (moment (g.F.Pages.files l.folder) l.self);
  buffer : l.self.buffer ≡ l.initial.self.buffer;
  cache : l.self.cache ≡ l.initial.self.cache;
  faults : g.F.Pages.faults l.folder ≡ g.F.Pages.faults l.initial.folder;
  rested : IsSettled l.initial.self → (l.self ≡ l.initial.self) × (g.F.Pages.reads l.folder ≡ g.F.Pages.reads l.initial.folder);
  faithful : IsTrue g.F.Pages.told → IsFaithful g.row.D (g.F.Pages.files l.initial.folder) l.initial.self
      → IsFaithful g.row.D (g.F.Pages.files l.folder) l.self;
  counts : IsTrue g.F.Pages.told → IsFaithful g.row.D (g.F.Pages.files l.initial.folder) l.initial.self
      → KeepsCounts g.row.D (g.F.Pages.files l.initial.folder) (g.F.Pages.files l.folder) l.initial.self l.self;
}

-- each merge takes the place of two segments at least
abbrev pub decreases-loop-ids : goal.decreases-loop-ids
decreases-loop-ids g l = length l.self.parts
