-- The live entries that the files of segments hold, where no more is known of these files than their heads.
use Rattle.std.specs.Prelude.{ℕ, ◌≡◌, ◌⊎◌, List, [], ◌∷◌, filter}
use Rattle.outer_io.specs.Files.{Files, bytes_of}
use Rattle.outer_io.specs.declared.file_name.FileName.TheVariants.{Segment}
use Rattle.point_codec.specs.Points.{Item}
use Rattle.live_bits.specs.LiveSet.{is_live}
use Rattle.segment_file.specs.Segments.{IsHeadOf, IsSegment, Joins}
use Rattle.segment_view.specs.LiveSegments.{LiveSegment}

-- the segment's head is the one that its file has
abbrev pub HasOwnHead : ℕ → Files → LiveSegment → Type 0
HasOwnHead D files p = IsHeadOf D (bytes_of (files (Segment p.head.id))) p.head

-- the file of the segment holds entries of which these are the live ones, or there are none, as none of its numbers is
-- live
abbrev pub IsHeld : ℕ → Files → LiveSegment → List Item → Type 0
IsHeld D files p items =
    ((p.live.live ≡ []) × (items ≡ []))
    ⊎ ((entries : List Item) × IsSegment D (bytes_of (files (Segment p.head.id))) p.head entries
    × (items ≡ filter (λ x. is_live p.live x.doc) entries))

-- the same of several segments, one after another
abbrev pub AreHeld : ℕ → Files → List LiveSegment → List Item → Type 0
AreHeld D files [] items = items ≡ []
AreHeld D files (p ∷ parts) items = Joins (IsHeld D files p) (AreHeld D files parts) items
