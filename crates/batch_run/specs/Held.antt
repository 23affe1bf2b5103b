-- Which documents segments hold together with their files.
use Rattle.std.specs.Prelude.{ℕ, List}
use Rattle.outer_io.specs.Files.{Files}
use Rattle.documents.specs.Documents.{Document}
use Rattle.documents.specs.Entries.{AreDocs}
use Rattle.segment_view.specs.LiveSegments.{AreRead, Contents, LiveSegment, live_in_parts}

-- the files hold the entries of the segments, and the live ones of these are those of the documents
pub record HoldsDocs (D : ℕ) (files : Files) (parts : List LiveSegment) (docs : List Document) : Type 0 where
  pub contents : Contents
  pub read : AreRead D files contents parts
  pub next : ℕ
  pub are_docs : AreDocs next (live_in_parts contents parts) docs
