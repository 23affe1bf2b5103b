-- Where the segments of a session come from, those of its snapshots too, whatever the commit lists; and which of their
-- files a damage may name.
use Rattle.std.specs.Prelude.{◌≡◌, ◌⊎◌, Contains}
use Rattle.outer_io.specs.declared.file_name.FileName.{FileName}
use Rattle.outer_io.specs.declared.file_name.FileName.TheVariants.{Segment}
use Rattle.outer_io.specs.Files.{Files}
use Rattle.page_cache.specs.declared.faults.Damage.{Damage}
use Rattle.segment_view.specs.LiveSegments.{LiveSegment}
use Rattle.segment_set.specs.Sets.{NamedView, SetData}
use Rattle.index_opening.specs.Evidence.{HoldsWhole, IsEvidentWith, IsOfListed, IsOfEntries}

-- a segment of now, or one that a snapshot keeps
abbrev pub IsOfSet : SetData → LiveSegment → Type 0
IsOfSet s p = Contains s.parts p ⊎ ((v : NamedView) × Contains s.snapshots v × Contains v.parts p)

-- the commit lists each of them
abbrev pub AreOfListed : Files → SetData → Type 0
AreOfListed files s = (p : LiveSegment) → IsOfSet s p → IsOfListed files (Segment p.head.id)

-- the file is that of a segment of before, or of a snapshot of then, and is as it was
pub record IsFileOf (old new : Files) (s : SetData) (file : FileName) : Type 0 where
  pub part : LiveSegment
  pub there : IsOfSet s part
  pub is : file ≡ Segment part.head.id
  pub same : new file ≡ old file

-- Each segment of now, and of each snapshot, has the file of one of before, as it was, or one that holds a segment
-- whole. What this says of one call after another it says of all.
abbrev pub Carries : (old new : Files) → (s t : SetData) → Type 0
Carries old new s t = (p : LiveSegment) → IsOfSet t p
    → ∥ (IsFileOf old new s (Segment p.head.id) ⊎ HoldsWhole new (Segment p.head.id)) ∥₁

-- the damage is evident, and may be of a file of such a segment
abbrev pub IsEvidentOver : (old : Files) → SetData → (told : Type 0) → Files → Damage → Type 0
IsEvidentOver old s told new = IsEvidentWith (IsFileOf old new s) (IsOfEntries new) told new
