-- What was found in the leaves of segments, and what of it shows a damage.
use Rattle.std.specs.Prelude.{ℕ, ◌≡◌, ◌≢◌, ◌≤◌, ◌<◌, ◌^◌, List, length, filter, take}
use Rattle.std.specs.Prelude.{count_by, sum_by, slice_get, All, Contains, Option, None, Some, IfNone, IfSome, min}
use Rattle.std.specs.List.{AllZip}
use Rattle.outer_io.specs.declared.file_name.FileName.TheVariants.{Commit, Live, Segment}
use Rattle.outer_io.specs.Files.{Files, bytes_of}
use Rattle.point_codec.specs.Points.{Item}
use Rattle.leaf_codec.specs.LeafOrder.{NoneTwice}
use Rattle.live_bits.specs.LiveSet.{is_live}
use Rattle.documents.specs.Entries.{has_entry}
use Rattle.page_cache.specs.declared.faults.Damage.{Damage}
use Rattle.page_cache.specs.declared.faults.Damage.TheVariants.{Unequal, Doubled}
use Rattle.commit_list.specs.declared.listed.Listed.{Listed}
use Rattle.segment_file.specs.Segments.{IsSegment}
use Rattle.segment_view.specs.LiveSegments.{LiveSegment}
use Rattle.document_checks.specs.Crowded.{AreFew, IsLeastCrowded}
use Rattle.folder_check.specs.declared.findings.Finding.{Finding}

-- the live ones of these entries
abbrev pub live_of : LiveSegment → List Item → List Item
live_of p items = filter (λ x. is_live p.live x.doc) items

-- this was found of live entries: the least crowded number, if there is one, and how many they are
pub record AreTallied (live : List Item) (f : Finding) : Type 0 where
  pub none : IfNone f.crowded (NoneTwice live × AreFew live)
  pub some : IfSome f.crowded (λ number. IsLeastCrowded number live)
  pub entries : f.entries ≡ length live

-- this was found of the entries of a segment; the live ones are tallied where each live number has one
pub record IsFoundOf (p : LiveSegment) (items : List Item) (f : Finding) : Type 0 where
  pub found : f.found ≡ count_by (λ number. has_entry number items) p.live.live
  pub tallied : f.found ≡ length p.live.live → AreTallied (live_of p items) f

-- and these entries are those of its file
pub record IsFinding (D : ℕ) (files : Files) (p : LiveSegment) (f : Finding) : Type 0 where
  pub items : List Item
  pub held : IsSegment D (bytes_of (files (Segment p.head.id))) p.head items
  pub of : IsFoundOf p items f

-- its file is that of a segment
abbrev pub HasSegment : ℕ → Files → LiveSegment → Type 0
HasSegment D files p = (items : List Item) × IsSegment D (bytes_of (files (Segment p.head.id))) p.head items

-- ---- looked through

-- each live number of the listed segment has an entry
abbrev pub HasAll : Listed → Finding → Type 0
HasAll s f = s.live ≡ f.found

-- the damage names the live bits of the first listed segment of which not each live number has an entry, with both
-- numbers
pub record IsLacking (listed : List Listed) (findings : List Finding) (d : Damage) : Type 0 where
  pub place : ℕ
  pub segment : Listed
  pub finding : Finding
  pub listed_there : slice_get listed place ≡ Some segment
  pub found_there : slice_get findings place ≡ Some finding
  pub before : AllZip HasAll (take place listed) (take place findings)
  pub apart : segment.live ≢ finding.found
  pub tells : d ≡ Unequal (Live segment.segment segment.generation) segment.live finding.found

-- the lesser of two numbers, where there are two
abbrev pub lesser : Option ℕ → Option ℕ → Option ℕ
lesser None b = b
lesser (Some x) None = Some x
lesser (Some x) (Some y) = Some (min x y)

-- the number is the least one that is crowded in a segment
pub record IsLeastOf (findings : List Finding) (number : ℕ) : Type 0 where
  pub finding : Finding
  pub there : Contains findings finding
  pub is : finding.crowded ≡ Some number
  pub least : All (λ f. IfSome f.crowded (λ n. number ≤ n)) findings

-- the damage is that number
abbrev pub IsCrowding : List Finding → Damage → Type 0
IsCrowding findings d = (number : ℕ) × (d ≡ Doubled number) × IsLeastOf findings number

-- how many live entries the segments have together
abbrev pub all_entries : List Finding → ℕ
all_entries findings = sum_by (λ f. f.entries) findings

-- the damage is that they are more than the points given
pub record IsMoreThanGiven (points_given : ℕ) (findings : List Finding) (d : Damage) : Type 0 where
  pub found : ℕ
  pub more : points_given < found
  pub is : all_entries findings < 2 ^ 64 → found ≡ all_entries findings
  pub tells : d ≡ Unequal Commit points_given found

-- nothing is wrong with what was found
pub record AreFine (listed : List Listed) (points_given : ℕ) (findings : List Finding) : Type 0 where
  pub all : AllZip HasAll listed findings
  pub none : All (λ f. f.crowded ≡ None) findings
  pub few : all_entries findings ≤ points_given

-- the damage is the first that is looked for
pub data IsWrong (listed : List Listed) (points_given : ℕ) (findings : List Finding) (d : Damage) : Type 0 where
  Lacking : IsLacking listed findings d → IsWrong listed points_given findings d
  Crowding : AllZip HasAll listed findings → IsCrowding findings d → IsWrong listed points_given findings d
  TooMany : AllZip HasAll listed findings → All (λ f. f.crowded ≡ None) findings
      → IsMoreThanGiven points_given findings d → IsWrong listed points_given findings d
