use Rattle.std.proofs.Common.{◌≡◌, ℕ, not, take}
use Rattle.std.specs.List.{filter}
use Rattle.outer_io.specs.Files.{Files}
use Rattle.documents.specs.Documents.{Document}
use Rattle.documents.specs.Entries.{is_among}
use Rattle.index_model.specs.State.{Index}
use Rattle.segment_set.specs.Seen.{Sees}
use Rattle.segment_set.specs.Kept.{Follows, StaysAlone}
use Rattle.segment_set.specs.Losing.{KeepsCounts}
use Rattle.segment_set.specs.Faithful.{IsFaithful}
use Rattle.segment_set.proofs.set.SegmentSet.delete_all.Given as goal

abbrev pub invariant-loop-doc : goal.invariant-loop-doc
invariant-loop-doc g l = record {
  seen : (files : Files) (i : Index) → Sees g.row.D files l.initial.self i
      → Sees g.row.D files l.self (record i { docs = filter (λ (d : Document). not (is_among (take l.doc-index l.docs) d.number)) i.docs });
  faithful : (files : Files) → IsFaithful g.row.D files l.initial.self → IsFaithful g.row.D files l.self;
  stays : StaysAlone l.initial.self l.self;
  follows : Follows l.initial.self.names l.initial.self.parts l.self.parts;
  counts : (E : ℕ) (files : Files) → KeepsCounts E files files l.initial.self l.self;
  names : l.self.names ≡ l.initial.self.names;
  saved : l.self.saved ≡ l.initial.self.saved;
}
