use Rattle.std.proofs.Common.{◌≡◌, ◌-◌, length, take}
use Rattle.std.specs.Prelude.{IsTrue, All}
use Rattle.index_model.specs.State.{Index}
use Rattle.segment_set.specs.Seen.{Sees}
use Rattle.segment_set.specs.Kept.{IsNeeded}
use Rattle.segment_set.specs.Faithful.{IsFaithful}
use Rattle.segment_set.specs.Swept.{IsSwept}
use Rattle.segment_set.proofs.set.SegmentSet.sweep.Given as goal

abbrev pub invariant-names : goal.invariant-names
invariant-names g l = record {
  seen : IsTrue g.F.Pages.told → (i : Index) → Sees g.row.D (g.F.Pages.files l.initial.folder) l.initial.self i
      → Sees g.row.D (g.F.Pages.files l.folder) l.self i;
  faithful : IsTrue g.F.Pages.told → IsFaithful g.row.D (g.F.Pages.files l.initial.folder) l.initial.self
      → IsFaithful g.row.D (g.F.Pages.files l.folder) l.self;
  swept : IsSwept (IsTrue g.F.Pages.told) l.c l.initial.self l.self (g.F.Pages.files l.initial.folder) (g.F.Pages.files l.folder);
  front : All (IsNeeded l.initial.self l.c) (take l.place l.self.names.names);
  reads : g.F.Pages.reads l.folder ≡ g.F.Pages.reads l.initial.folder;
  faults : g.F.Pages.faults l.folder ≡ g.F.Pages.faults l.initial.folder;
}

abbrev pub decreases-names : goal.decreases-names
decreases-names g l = length l.self.names.names - l.place
