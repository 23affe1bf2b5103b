use Rattle.outer_io.specs.declared.file_name.FileName.TheVariants.{Live}
use Rattle.documents.specs.Entries.{is_among}
use Rattle.file_names.specs.Names.{is_named}
use Rattle.segment_view.specs.LiveSegments.{ids_of}
use Rattle.std.proofs.Common.{◌≡◌, ◌≤◌, ◌+◌, ◌-◌, ℕ, false, length, take, vec_len, vec_capacity}
use Rattle.std.specs.Prelude.{IsTrue}
use Rattle.std.specs.List.{AllZip}
use Rattle.segment_set.specs.Kept.{KeepsNamed}
use Rattle.segment_set.specs.Saved.{IsSaved}
use Rattle.segment_set.proofs.save.list_lives.Given as goal

abbrev pub invariant-loop-i : goal.invariant-loop-i
invariant-loop-i g l = record {
  kept : KeepsNamed (IsTrue g.F.Pages.told) l.initial.names l.names (g.F.Pages.files l.initial.folder) (g.F.Pages.files l.folder);
  next : l.names.next_segment ≡ l.initial.names.next_segment;
  apart : (id n : ℕ) → is_among (ids_of (take l.i l.segments)) id ≡ false → is_named l.names.names (Live id n) ≡ is_named l.initial.names.names (Live id n);
  reads : g.F.Pages.reads l.folder ≡ g.F.Pages.reads l.initial.folder;
  faults : g.F.Pages.faults l.folder ≡ g.F.Pages.faults l.initial.folder;
  room : vec_len l.listed + (length l.segments - l.i) ≤ vec_capacity l.listed;
  listed : AllZip (IsSaved (IsTrue g.F.Pages.told) l.last l.initial.names l.names (g.F.Pages.files l.folder)) l.listed.items (take l.i l.segments);
}
