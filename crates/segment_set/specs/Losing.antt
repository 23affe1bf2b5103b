-- That no live number is lost, and no entry comes from nowhere, whatever the files hold.
use Rattle.std.specs.Prelude.{◌≡◌, ◌≤◌, ◌+◌, ◌⊎◌, ℕ, Bool, true, false, List, length, filter, Option, None, Some}
use Rattle.std.specs.Prelude.{Contains}
use Rattle.std.specs.List.{sum_by}
use Rattle.outer_io.specs.declared.file_name.FileName.TheVariants.{Segment}
use Rattle.outer_io.specs.Files.{Files, bytes_of}
use Rattle.point_codec.specs.Points.{Item}
use Rattle.live_bits.specs.LiveSet.{is_live}
use Rattle.documents.specs.Entries.{has_entry}
use Rattle.segment_file.specs.Segments.{IsSegment}
use Rattle.segment_view.specs.LiveSegments.{LiveSegment, has_live, parts_among}
use Rattle.segment_build.specs.NewSegments.{NewSegmentData, HasEntries}
use Rattle.index_opening.specs.Evidence.{AreOfSome}
use Rattle.segment_set.specs.Sets.{BegunMerge, SetData, is_live_in}

-- the number is live in what was built
abbrev pub is_built_live : ℕ → Option NewSegmentData → Bool
is_built_live number None = false
is_built_live number (Some n) = is_live n.live number

-- one of the segments has the number live, though its file holds entries of which none has it
pub record HasNoEntry (D : ℕ) (files : Files) (inputs : List LiveSegment) (number : ℕ) : Type 0 where
  pub part : LiveSegment
  pub there : Contains inputs part
  pub live : is_live part.live number ≡ true
  pub items : List Item
  pub held : IsSegment D (bytes_of (files (Segment part.head.id))) part.head items
  pub none : has_entry number items ≡ false

-- each number that is live in the inputs is so in what was built, but where no entry has it
abbrev pub KeepsNumbers : (D : ℕ) (files : Files) (inputs : List LiveSegment) → Option NewSegmentData → Type 0
KeepsNumbers D files inputs built = (number : ℕ) → has_live number inputs ≡ true
    → (is_built_live number built ≡ true) ⊎ ∥ HasNoEntry D files inputs number ∥₁

-- of no kind are more entries live in the segment that was built than in some of the inputs
pub record HoldsNoMore (D : ℕ) (files : Files) (inputs : List LiveSegment) (n : NewSegmentData) : Type 0 where
  pub entries : List Item
  pub has : HasEntries D entries n
  pub items : List Item
  pub held : AreOfSome D files inputs items
  pub fewer : (f : Item → ℕ) → sum_by f (filter (λ x. is_live n.live x.doc) entries) ≤ sum_by f items

-- what was built takes over what is live in the inputs, their numbers and entries, and no more
pub record TakesOver (D : ℕ) (files : Files) (inputs : List LiveSegment) (built : Option NewSegmentData) : Type 0 where
  pub numbers : KeepsNumbers D files inputs built
  pub entries : (n : NewSegmentData) → built ≡ Some n → ∥ HoldsNoMore D files inputs n ∥₁

-- so it is with what a begun merge has built
abbrev pub KeepsBegun : (D : ℕ) (files : Files) → SetData → Type 0
KeepsBegun D files s = (b : BegunMerge) → s.begun ≡ Some b → TakesOver D files (parts_among b.inputs s.parts) b.built

-- each number that is live in the first set is so in the second, but where no entry has it
abbrev pub IsLossless : (D : ℕ) (files : Files) (s t : SetData) → Type 0
IsLossless D files s t = (number : ℕ) → is_live_in s number ≡ true
    → (is_live_in t number ≡ true) ⊎ ∥ HasNoEntry D files s.parts number ∥₁

-- where the segments and the buffer of now hold more live entries than those of before, as many points were given since
pub record KeepsCounts (D : ℕ) (files new_files : Files) (s t : SetData) : Type 0 where
  pub come : (items : List Item) → AreOfSome D new_files t.parts items
      → ∥ ((was : List Item) × AreOfSome D files s.parts was
      × (length items + length t.buffer + s.points_given ≤ length was + length s.buffer + t.points_given)) ∥₁
