use Rattle.std.proofs.Common.{◌≡◌, ◌%◌, ◌-◌, ℕ, length}
use Rattle.outer_io.specs.Files.{Files}
use Rattle.segment_set.specs.Faithful.{IsFaithful}
use Rattle.index_core.specs.Effects.{BringsCanonical}
use Rattle.index_core.specs.Sessions.{Guards, IsSetTraced}
use Rattle.drawn_points.specs.Generated.{documents, kept_docs}
use Rattle.generate_index.specs.Generates.{IsDrawn}
use Rattle.generate_index.proofs.generator.delete_tenths.Given as goal

-- each tenth document below the number has gone
abbrev pub invariant-deletes : goal.invariant-deletes
invariant-deletes l = record {
  made : (files : Files) (faults seed : ℕ) → IsDrawn seed l.docs 0 (record { files = files; session = l.initial.session; faults = faults })
      → IsDrawn seed l.docs l.number (record { files = files; session = l.session; faults = faults });
  live : (files : Files) (faults seed : ℕ) → IsDrawn seed l.docs 0 (record { files = files; session = l.initial.session; faults = faults })
      → l.live ≡ length (kept_docs l.number (documents seed l.docs));
  guards : (files : Files) → Guards 2 files l.initial.session → Guards 2 files l.session;
  faithful : (files : Files) → IsFaithful 2 files l.initial.session.set → IsFaithful 2 files l.session.set;
  traced : (files : Files) → IsSetTraced 2 files l.initial.session.set → IsSetTraced 2 files l.session.set;
  canon : (files : Files) → BringsCanonical 2 files files l.initial.session.set.parts l.session.set.parts;
  tenth : l.number % 10 ≡ 0;
}

abbrev pub decreases-deletes : goal.decreases-deletes
decreases-deletes l = l.docs - l.number
