-- Which numbers the commit of a folder keeps live, whatever else the folder holds.
use Rattle.std.specs.Prelude.{◌≡◌, ◌⊎◌, ℕ, true, false, List, Contains}
use Rattle.outer_io.specs.declared.file_name.FileName.TheVariants.{Commit, Live, Segment}
use Rattle.outer_io.specs.Files.{Files, bytes_of}
use Rattle.point_codec.specs.Points.{Item}
use Rattle.live_bits.specs.LiveSet.{LiveSet, is_live}
use Rattle.documents.specs.Entries.{has_entry}
use Rattle.commit_list.specs.declared.listed.Listed.{Listed}
use Rattle.commit_list.specs.Commits.{CommitData}
use Rattle.commit_list.specs.CommitFiles.{IsCommitFile}
use Rattle.segment_file.specs.Heads.{Head}
use Rattle.segment_file.specs.LiveFiles.{IsLiveFile}
use Rattle.segment_file.specs.Segments.{IsSegment}
use Rattle.stored_index.specs.Kept.{SameKept}
use Rattle.segment_set.specs.Sets.{SetData, is_live_in}
use Rattle.segment_set.specs.Losing.{HasNoEntry}

-- the folder's commit lists a segment by whose file of live bits the number is live
pub record IsKeptLive (files : Files) (number : ℕ) : Type 0 where
  pub commit : CommitData
  pub says : IsCommitFile (bytes_of (files Commit)) commit
  pub listed : Listed
  pub there : Contains commit.listed listed
  pub live : LiveSet
  pub file : IsLiveFile listed.segment listed.generation
      (bytes_of (files (Live listed.segment listed.generation))) live
  pub is : is_live live number ≡ true

-- so it is, though the segment's file holds entries of which none has it
pub record IsKeptWithout (files : Files) (number : ℕ) : Type 0 where
  pub kept : IsKeptLive files number
  pub head : Head
  pub id : head.id ≡ kept.listed.segment
  pub items : List Item
  pub held : IsSegment kept.commit.dims (bytes_of (files (Segment head.id))) head items
  pub none : has_entry number items ≡ false

-- Each number that the commit of before keeps live that of now does, but where no entry has it, or it is one that goes.
abbrev pub KeepsLive : (Goes : ℕ → Type 0) → (old new : Files) → Type 0
KeepsLive Goes old new = (number : ℕ) → IsKeptLive old number
    → IsKeptLive new number ⊎ (∥ IsKeptWithout old number ∥₁ ⊎ Goes number)

-- What is kept is the same, or the commit of now keeps each number live that is so in the set, but where no entry has
-- it, or it is one that goes.
abbrev pub KeepsSet : (D : ℕ) (Goes : ℕ → Type 0) → (old new : Files) → SetData → Type 0
KeepsSet D Goes old new s = SameKept old new ⊎ ((number : ℕ) → is_live_in s number ≡ true
    → IsKeptLive new number ⊎ (∥ HasNoEntry D old s.parts number ∥₁ ⊎ Goes number))

-- what the folder's commit keeps live is live in the set, and what has no entry in a segment of this has none there
pub record FindsKept (D : ℕ) (files : Files) (s : SetData) : Type 0 where
  pub live : (number : ℕ) → IsKeptLive files number → is_live_in s number ≡ true
  pub lost : (number : ℕ) → HasNoEntry D files s.parts number → IsKeptWithout files number
