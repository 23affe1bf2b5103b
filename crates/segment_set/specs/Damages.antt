-- What a damage that a call of a set answers shows: by what it carries alone, and of the files where those are told.
use Rattle.std.specs.Prelude.{◌≡◌, ◌≤◌, ◌<◌, ◌+◌, ◌⊎◌, ℕ, true, false, List, length, Contains}
use Rattle.outer_io.specs.declared.file_name.FileName.TheVariants.{Commit, Segment}
use Rattle.outer_io.specs.Files.{Files}
use Rattle.point_codec.specs.Points.{Item}
use Rattle.page_cache.specs.declared.faults.Damage.{Damage}
use Rattle.page_cache.specs.declared.faults.Damage.TheVariants.{Unequal, Doubled}
use Rattle.segment_file.specs.Heads.{Head}
use Rattle.segment_file.specs.Damages.{IsLeafDamageOf}
use Rattle.segment_view.specs.LiveSegments.{LiveSegment}
use Rattle.segment_view.specs.Damages.{IsReadDamage}
use Rattle.document_checks.specs.Crowded.{IsCrowded}
use Rattle.index_opening.specs.Evidence.{AreOfSome, IsCrowdedIn, IsEvidentWith, IsOfPart}
use Rattle.file_names.specs.Names.{NameList, is_named}

-- ---- merges

-- entries from which a segment was to be built are more than the points given, or a number has more than 16 of them or
-- one twice
abbrev pub IsDoubt : (points_given : ℕ) → List Item → Damage → Type 0
IsDoubt points_given items (Unequal file said found) = (file ≡ Commit) × (said ≡ points_given) × (points_given < found)
    × (found ≤ length items)
IsDoubt points_given items (Doubled doc) = IsCrowded doc items
IsDoubt points_given items _ = ⊥

-- Merging these segments, or such as the call wrote itself under names that the list didn't have and has now, shows a
-- leaf to be damaged, or live entries to be none of documents.
pub data IsMergeDamage (D points_given : ℕ) (names now : NameList) (parts : List LiveSegment)
    (d : Damage) : Type 0 where
  Read : (p : LiveSegment) → Contains parts p → IsReadDamage D p.head d → IsMergeDamage D points_given names now parts d
  New : (head : Head) → is_named names.names (Segment head.id) ≡ false → is_named now.names (Segment head.id) ≡ true
      → IsReadDamage D head d → IsMergeDamage D points_given names now parts d
  Doubt : (items : List Item) → IsDoubt points_given items d → IsMergeDamage D points_given names now parts d

-- and it is true of the files
abbrev pub IsMergeDamageOf : Files → ℕ → Damage → Type 0
IsMergeDamageOf files points_given d = IsLeafDamageOf files d ⊎ ((items : List Item) × IsDoubt points_given items d)

-- ---- evidence

-- The files of these segments show it: they hold more live entries, with so many that wait, than this number of points
-- given, which names the Commit file; or a number is Doubled in one of them.
abbrev pub IsOfParts : (D : ℕ) (files new_files : Files) → List LiveSegment → (waiting points_given : ℕ) → Damage
    → Type 0
IsOfParts D files new_files parts waiting points_given (Unequal file said found) =
    (file ≡ Commit) × (said ≡ points_given) × (points_given < found)
    × ((items : List Item) × AreOfSome D files parts items × (found ≤ length items + waiting))
IsOfParts D files new_files parts waiting points_given (Doubled doc) = IsCrowdedIn D new_files parts doc
IsOfParts D files new_files parts waiting points_given d = ⊥

-- the damage is evident of a merge of some of these segments, as the files held them before
abbrev pub IsEvidentIn : (D : ℕ) (files : Files) → List LiveSegment → (waiting points_given : ℕ) → (told : Type 0)
    → Files → Damage → Type 0
IsEvidentIn D files parts waiting points_given told new_files =
    IsEvidentWith (IsOfPart parts) (IsOfParts D files new_files parts waiting points_given) told new_files
